-- How many bytes lines, digests, streams and payloads have, and whatever a command tells.
use Rattle.walrus_c.proofs.Common.{◌≡◌, ℕ, ◌+◌, ◌*◌, ◌<◌, ◌≤◌, List, [], ◌∷◌, ◌++◌, length, length-append, decimal, ap, ◌∙◌, arith, flat_map, length-decimal-le, encode_lower, lower_digits, hex_text, collision_text, zero, suc, ◌/◌, drop, length-take, inl, inr, Format, BlobMetadata, format_text, length-head, AreDigestedFor, held_pairs, identifier_text, Result, Frame, read_of, FrameError, IsStream, IsMalformed, claims_in, claim_for, ⊤, length-envelope, codes, Command, Content, ClashesBehind, Grammar, HasNone, HasTwoMetadata, IsResult, Misspells, Spells, bytes as any_bytes, envelopes_of, success, rejection, lacking, unreadable, collision}
use Rattle.std.proofs.lemmas.List.Concat.{flat_map-cons}
use Rattle.hex.proofs.HexLemmas.{length-encode_with}
use Rattle.wal_run.specs.Lines.{number_text}
use Rattle.wal_tree.specs.Tree.{pieces}
use Rattle.wal_tree.specs.Path.{MeetAbove, MeetInTrees, path_over, parent_text}
use Rattle.wal_tree.proofs.Sizes.{length-root_over}

-- pieces of which one stands before the others
pub length-flat_map-cons : {X A : Type 0} (f : X → List A) (x : X) (xs : List X)
    → length (flat_map f (x ∷ xs)) ≡ length (f x) + length (flat_map f xs)
length-flat_map-cons f x xs = ap length (flat_map-cons f x xs) ∙ length-append (f x) (flat_map f xs)

-- a numeral of a number below 10^9, which has 9 digits at most
pub numeral : (n : ℕ) → n < 1000000000 → length (decimal n) ≤ 9
numeral n small = length-decimal-le 9 n (omega arith) (omega arith) (omega (arith, small))

-- a numeral behind a prefix
pub number_line : (prefix : List ℕ) (n : ℕ) → n < 1000000000 → length (number_text prefix n) ≤ length prefix + 10
number_line prefix n small = simp length-append (omega (arith, numeral n small))

-- two numerals behind prefixes
pub two_line : (prefix middle : List ℕ) (n m : ℕ) → n < 1000000000 → m < 1000000000
    → length ((prefix ++ decimal n) ++ number_text middle m) ≤ length prefix + length middle + 19
two_line prefix middle n m small few = simp length-append (omega (arith, numeral n small, numeral m few))

-- these among the lines of at most 272 bytes
pub one_fits : (room : ℕ) (prefix : List ℕ) (n : ℕ) (text : List ℕ) → 272 ≤ room → length prefix ≤ 200 → n < 1000000000
    → text ≡ number_text prefix n → length text ≤ room
one_fits room prefix n text most short small is = omega (arith, ap length is, number_line prefix n small, short, most)

-- two numbers below 1000000000 and at most 200 bytes beside them have room in 272
pub two_fits : (room : ℕ) (prefix middle : List ℕ) (n m : ℕ) (text : List ℕ) → 272 ≤ room
    → length prefix + length middle ≤ 200 → n < 1000000000 → m < 1000000000
    → text ≡ ((prefix ++ decimal n) ++ number_text middle m) → length text ≤ room
two_fits room prefix middle n m text most short small few is =
    omega (arith, ap length is, two_line prefix middle n m small few, short, most)

-- digits of a text
pub digits : (text : List ℕ) → length (encode_lower text) ≡ 2 * length text
digits text = length-encode_with lower_digits text

-- digits of a text, or a dash
pub hex_most : (text : List ℕ) (n : ℕ) → length text ≤ n → 1 ≤ n → length (hex_text text) ≤ 2 * n
hex_most [] n most some = omega (arith, some)
hex_most (x ∷ xs) n most some = omega (arith, digits (x ∷ xs), most)

-- the line of two texts of at most 65 bytes
pub clash_line : (left right : List ℕ) → length left ≤ 65 → length right ≤ 65 → length (collision_text left right) ≤ 272
clash_line left right one other =
    simp length-append (omega (arith, hex_most left 65 one (omega arith), hex_most right 65 other (omega arith)))

-- ---- the two texts of a collision of metadata have at most 65 bytes

-- each has the size of a digest at most
abbrev Short : List (List ℕ) → Type 0
Short [] = Unit {0}
Short (x ∷ xs) = (length x ≤ 32) × Short xs

pieces_short : (count : ℕ) (content : List ℕ) → Short (pieces count 32 content)
pieces_short zero content = tt
pieces_short (suc count) content = (omega (arith, length-take 32 content), pieces_short count (drop 32 content))

parent_short : (place : ℕ) (entry sibling : List ℕ) → length entry ≤ 32 → length sibling ≤ 32 → length (parent_text place entry sibling) ≤ 65
parent_short place entry sibling one other = grind (arith, length-append entry sibling, length-append sibling entry)

format_short : (format : Format) → length (format_text format) ≤ 1
format_short format = grind arith

module _ (digest : List ℕ → List ℕ) (size_is : (text : List ℕ) → length (digest text) ≡ 32) where
  above_short : (place : ℕ) (x : List ℕ) (xs : List (List ℕ)) (y : List ℕ) (ys : List (List ℕ)) (left right : List ℕ) → length x ≤ 65 → length y ≤ 65 → Short xs → Short ys
      → MeetAbove digest place x xs y ys left right → (length left ≤ 65) × (length right ≤ 65)
  above_short place x (s ∷ xs) y (t ∷ ys) left right one other ss ts (inl meet) = (omega (arith, ap length meet.1, one), omega (arith, ap length meet.2, other))
  above_short place x (s ∷ xs) y (t ∷ ys) left right one other ss ts (inr meet) =
      above_short (place / 2) _ xs _ ys left right
      (parent_short place (digest x) s (omega (arith, size_is x)) ss.0) (parent_short place (digest y) t (omega (arith, size_is y)) ts.0) ss.1 ts.1 meet.1
  above_short place x xs y ys left right one other ss ts meet =
      (omega (arith, ap length meet.1, one), omega (arith, ap length meet.2, other))

  trees_short : (a b left right : List ℕ) → MeetInTrees digest 64 a b left right → (length left ≤ 65) × (length right ≤ 65)
  trees_short a b left right meet =
      above_short meet.0 _ _ _ _ left right
      (omega (arith, length-take 64 (drop (meet.0 * 64) a))) (omega (arith, length-take 64 (drop (meet.0 * 64) b)))
      (pieces_short _ (path_over digest 64 a meet.0)) (pieces_short _ (path_over digest 64 b meet.0)) meet.4

  identifier_short : (m : BlobMetadata) → length (identifier_text digest m) ≤ 65
  identifier_short m =
      let root = length-root_over digest size_is 64 (held_pairs m) in
      rw length-append (omega (arith, format_short m.format, length-head m.format m.f m.length, root))

  -- the two texts in which metadata collide have at most 65 bytes each
  pub texts_short : (a b : BlobMetadata) (left right : List ℕ) → AreDigestedFor digest a b left right → (length left ≤ 65) × (length right ≤ 65)
  texts_short a b left right (inl apart) = (omega (arith, ap length apart.1, identifier_short a), omega (arith, ap length apart.2, identifier_short b))
  texts_short a b left right (inr meet) = trees_short (held_pairs a) (held_pairs b) left right meet.1

-- ---- how many payloads a stream has, and where it breaks

-- the payloads of a stream have no more bytes, and are no more than them
pub payloads_few : (payloads : List (List ℕ)) (bytes : List ℕ) → IsStream payloads bytes → length payloads ≤ length bytes
payloads_few [] bytes is = omega arith
payloads_few (payload ∷ payloads) bytes is =
    rw (is.3, length-append) (omega (arith, payloads_few payloads is.1 is.4, length-envelope is.0 payload))

-- it breaks within its bytes
pub breaks_within : (place : ℕ) (bytes : List ℕ) → IsMalformed place bytes → place ≤ length bytes
breaks_within place bytes is = omega (arith, is.size, ap length is.parts, length-append is.front is.rest)

-- a payload gives one claim at most
claim_one : (id : List ℕ) (read : Result Frame FrameError) → length (claim_for id read) ≤ 1
claim_one id read = grind arith

pub claims_few : (id : List ℕ) (payloads : List (List ℕ)) → length (claims_in id payloads) ≤ length payloads
claims_few id [] = omega arith
claims_few id (payload ∷ payloads) =
    let one = claim_one id (read_of payload) in
    omega (arith, one, claims_few id payloads, length-flat_map-cons (λ p. claim_for id (read_of p)) payload payloads)

-- ---- whatever a command tells of its input has room: by the kinds of what it tells, and the lines of its grammar

-- a kind of what a command tells: an answer, a refusal, what it leaves behind when memory runs out, or two texts that
-- collide
pub data Kind : Type 0 where
  succeeds : Kind
  rejects : Kind
  lacks : Kind
  misreads : Kind
  leaves : Kind
  collides : (left right : List ℕ) → Kind

-- what it shows of what is spelled, and of the text, or of what stands before the line of the two
abbrev pub Shows : (c : Command) → Kind → Content c.grammar → List ℕ → Type 0
Shows c succeeds content text = c.Succeeds content text
Shows c rejects content text = c.Rejects content text
Shows c lacks content text = c.Lacks content text
Shows c misreads content text = c.Misreads content text
Shows c leaves content text = c.Leaves content text
Shows c (collides left right) content front = c.Collides content left right front

-- what is written: the two texts of a collision behind what came before, and else the text
abbrev pub told : Kind → List ℕ → List ℕ
told (collides left right) front = front ++ collision_text left right
told other text = text

-- the texts for this input have room, but for those of the grammar
abbrev pub Tells : (List ℕ → List ℕ) → Command → List ℕ → ℕ → Type 0
Tells digest c input room =
    (kind : Kind) (content : Content c.grammar) → Spells digest c.grammar input content
    → (text : List ℕ) → Shows c kind content text → length (told kind text) ≤ room

-- and so have those of the grammar; only these two are looked at
abbrev pub HasLines : Grammar → ℕ → ℕ → Type 0
HasLines (envelopes_of id) limit room = (272 ≤ room) × (limit ≤ 134217728)
HasLines any_bytes limit room = ⊤
HasLines other limit room = ⊥

module _ (digest : List ℕ → List ℕ) (size_is : (text : List ℕ) → length (digest text) ≡ 32) where
  none_short : (g : Grammar) (limit room : ℕ) (input text : List ℕ) → HasLines g limit room
      → HasNone digest g input text → length text ≤ room
  none_short (envelopes_of id) limit room input text lines none = omega (arith, ap length none.3, lines.0)
  none_short other limit room input text lines none = absurd none

  broken_short : (g : Grammar) (limit room : ℕ) (input text : List ℕ) → HasLines g limit room → length input ≤ limit
      → Misspells g input text → length text ≤ room
  broken_short any_bytes limit room input text lines within broken = absurd broken
  broken_short (envelopes_of id) limit room input text lines within broken =
      one_fits room (codes "malformed at ") broken.0 text lines.0 (omega arith)
      (omega (arith, breaks_within broken.0 input broken.1, within, lines.1)) broken.2
  broken_short other limit room input text lines within broken = absurd lines

  two_short : (g : Grammar) (limit room : ℕ) (input left right : List ℕ) → HasLines g limit room
      → HasTwoMetadata digest g input left right
      → length (collision_text left right) ≤ room
  two_short (envelopes_of id) limit room input left right lines two =
      let texts = texts_short digest size_is _ _ left right two.5 in
      omega (arith, clash_line left right texts.0 texts.1, lines.0)
  two_short other limit room input left right lines two = absurd two

  pub result_short : (c : Command) (input : List ℕ) (room : ℕ) → HasLines c.grammar c.limit room
      → length input ≤ c.limit → Tells digest c input room
      → (status : ℕ) (text : List ℕ) → IsResult digest c input status text → length text ≤ room
  result_short c input room lines within tells _ _ (success text is) = tells succeeds is.0 is.1 text is.2
  result_short c input room lines within tells _ _ (rejection text is) = tells rejects is.0 is.1 text is.2
  result_short c input room lines within tells _ _ (lacking text (inl none)) =
      none_short c.grammar c.limit room input text lines none
  result_short c input room lines within tells _ _ (lacking text (inr is)) = tells lacks is.0 is.1 text is.2
  result_short c input room lines within tells _ _ (unreadable text (inl broken)) =
      broken_short c.grammar c.limit room input text lines within broken
  result_short c input room lines within tells _ _ (unreadable text (inr is)) = tells misreads is.0 is.1 text is.2
  result_short c input room lines within tells _ _ (collision left right text same is) =
      omega (arith, ap length is.whole, by is.front is.clashes) where
        by : (front : List ℕ) → ClashesBehind digest left right c input front
            → length (front ++ collision_text left right) ≤ room
        by front (inl two) =
            let line = two_short c.grammar c.limit room input left right lines two.0 in
            omega (arith, length-append front (collision_text left right), ap length two.1, line)
        by front (inr said) = tells (collides left right) said.0 said.1 front said.2
