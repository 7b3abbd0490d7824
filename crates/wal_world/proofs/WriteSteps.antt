-- What is sent to shards, one after the other, and what one of them holds of it.
use Rattle.wal_world.proofs.Common.{nat_lt, nat_le, ◌≡◌, ℕ, ◌+◌, ◌<◌, ◌≤◌, Bool, true, false, cond, ◌&&◌, not, nat_eq, List, [], ◌∷◌, ◌++◌, length, map, drop, get_or, Option, Some, None, is_some, IsTrue, ◌↔◌, refl, ap, arith, AllByRecursion, pointwise, and_parts, leb-true, ltb-true, drop_more, BlobId, Side, Now, Next, Collision, BlobMetadata, among, ascends_from, metadata_text, Frame, IsFrame, frame_text, is_moving, Parts, Contents, parts_at, PutAnswer, CanBePut, Written, messages_of, Books, Network, ledger_of, faulty_on, World, contents_of, held, is_correct, keeps, side_of, PutsFrame, has_frames, is_bytes, world_of, AreParts, PutsTo, SpellsPart, TellsClash, addressed, frame_in, letters_in, letters, part_at, OtherMetadata}
use Rattle.std.proofs.Math.ListN.{drop_of_length-le}
use Rattle.std.proofs.lemmas.Bool.Decides.{same_from_decides}
use Rattle.std.proofs.lemmas.Slice.Eq.{bytes_eq-Decides}
use Rattle.wal_shape.specs.declared.part.Part.TheVariants as parts
use Rattle.wal_world.proofs.LetterLaws.{frame_again, put_clashes, put_stays, puts_none}

-- ---- what puts leave alone

-- networks with the same books have the same correct shards
pub same_correct : {H : Type 0} (a b : Network H) (side : Side) (shard : ℕ) → a.books ≡ b.books → is_correct side (world_of a) shard ≡ is_correct side (world_of b) shard
same_correct a b Now shard e = ap (λ (k : Option Books). true && not (among (faulty_on Now k) shard)) e
same_correct a b Next shard e = ap (λ (k : Option Books). is_moving (ledger_of k).log && not (among (faulty_on Next k) shard)) e

module _ (digest : List ℕ → List ℕ) where
  -- ---- one put, by the text

  pub text_put : (w new : World) (side : Side) (shard : ℕ) (frame read : Frame) (contents : Contents) (answer : PutAnswer) (clash : Option Collision) → frame ≡ read
      → PutsFrame digest w.log.f w.log shard (contents_of (side_of side w) shard) frame answer contents → new ≡ keeps w side shard contents → TellsClash answer clash
      → PutsTo digest w side ((shard, read) ∷ []) clash new
  text_put w new side shard frame read contents answer clash same p is told =
      rw (← same) (by answer clash p told)
    where
      by : (a : PutAnswer) (o : Option Collision) → PutsFrame digest w.log.f w.log shard (contents_of (side_of side w) shard) frame a contents → TellsClash a o
          → PutsTo digest w side ((shard, frame) ∷ []) o new
      by (OtherMetadata m) (Some c) q t = put_clashes digest w new side shard frame contents m c q is t.0 t.1
      by (OtherMetadata m) None q t = absurd t
      by a None q t = put_stays digest w new side shard frame contents a refl q is
      by a (Some c) q t = absurd t

  -- ---- what is sent to one shard

  -- a faulty shard is sent nothing
  pub message_none : (w : World) (side : Side) (shard : ℕ) (l : List (ℕ × Frame)) → is_correct side w shard ≡ false
      → PutsTo digest w side (cond (is_correct side w shard) l []) None w
  message_none w side shard l faulty = rw faulty (puts_none digest w side)

  pub message_some : (w new : World) (side : Side) (shard : ℕ) (texts : List (List ℕ)) (frames : List Frame) (clash : Option Collision) → is_correct side w shard ≡ true
      → texts ≡ map frame_text frames → AllByRecursion IsFrame frames → PutsTo digest w side (letters_in shard texts) clash new
      → PutsTo digest w side (cond (is_correct side w shard) (addressed shard frames) []) clash new
  message_some w new side shard texts frames clash correct spelled fit h =
      rw (correct, ← again frames fit, ← spelled) h
    where
      again : (l : List Frame) → AllByRecursion IsFrame l → letters_in shard (map frame_text l) ≡ addressed shard l
      again [] h = refl
      again (x ∷ xs) h = rw (frame_again x h.0, again xs h.1)

-- the texts of what is sent are spellings of frames that may be put
pub spell_each : (w : Written) (shard : ℕ) (texts : List (List ℕ)) → texts ≡ map frame_text (messages_of w shard) → AreParts w shard → AllByRecursion SpellsPart texts
spell_each w shard texts spelled h = rw spelled (each (messages_of w shard) (tt, (tt, (tt, tt))) h)
  where
    each : (l : List Frame) → AllByRecursion CanBePut l → AllByRecursion IsFrame l → AllByRecursion SpellsPart (map frame_text l)
    each [] p h = tt
    each (x ∷ xs) p h = (record { frame = x; part = p.0; fit = h.0; spelled = refl }, each xs p.1 h.1)

-- ---- one step on in a list

-- the letters from a place on are the one there and those behind it
pub letter_next : (shard : ℕ) (texts : List (List ℕ)) (i : ℕ) (text : List ℕ) → i < length texts → text ≡ get_or texts i text
    → letters_in shard (drop i texts) ≡ ((shard, frame_in text) ∷ []) ++ letters_in shard (drop (i + 1) texts)
letter_next shard texts i text less at = rw (drop_more texts i text less, ← at)

pub letters_next : (old here : World) (side : Side) (message : ℕ → List Frame) (to : List ℕ) (i d : ℕ) → i < length to
    → is_correct side here (get_or to i d) ≡ is_correct side old (get_or to i d)
    → letters old side message (drop i to)
    ≡ cond (is_correct side here (get_or to i d)) (addressed (get_or to i d) (message (get_or to i d))) [] ++ letters old side message (drop (i + 1) to)
letters_next old here side message to i d less same = rw (drop_more to i d less, same)

-- at its end
pub at_end : {A B : Type 0} (sent : List A → List B) (xs : List A) (i : ℕ) → length xs ≤ i → sent (drop i xs) ≡ sent []
at_end sent xs i past = ap sent (drop_of_length-le xs past)

-- ---- what a shard holds of what was sent to it

same_text : (o : Option (List ℕ)) (text : List ℕ) (a : Bool) → (IsTrue a ↔ (o ≡ Some text)) → a ≡ is_bytes o text
same_text None text a h = same_from_decides a false h ((λ e. absurd cc), (λ e. absurd cc))
same_text (Some xs) text a h =
    let same = bytes_eq-Decides xs text in
    same_from_decides a (pointwise nat_eq xs text) h ((λ t. ap Some (same.0 t)), (λ e. same.1 (cc)))

all_three : (a b c : Bool) → (a && (b && c)) ≡ (a && (b && (c && true)))
all_three true true true = refl
all_three a b c = refl

has_sent : (p : Parts) (x : Written) (shard : ℕ) (a slivers : Bool) → (IsTrue a ↔ (p.metadata ≡ Some (metadata_text x.metadata)))
    → slivers ≡ (is_some p.primary && is_some p.secondary) → (a && slivers) ≡ has_frames (messages_of x shard) p
has_sent p x shard a slivers metadata is =
    rw (is, same_text p.metadata (metadata_text x.metadata) a metadata) (all_three (is_bytes p.metadata (metadata_text x.metadata)) (is_some p.primary) (is_some p.secondary))

pub stores_is : (w : World) (side : Side) (shard : ℕ) (s : Contents) (id : BlobId) (m : BlobMetadata) (x : Written) (a slivers result : Bool) → is_correct side w shard ≡ true
    → s ≡ contents_of (side_of side w) shard → id ≡ x.id → m ≡ x.metadata
    → (IsTrue a ↔ (part_at s id parts.Metadata ≡ Some (metadata_text m)))
    → slivers ≡ (is_some (part_at s id parts.Primary) && is_some (part_at s id parts.Secondary)) → result ≡ (a && slivers)
    → result ≡ (is_correct side w shard && has_frames (messages_of x shard) (held (side_of side w) shard x.id))
unfolding held
stores_is w side shard s id m x a slivers result correct there named metadata iff is e =
    rw (e, correct, ← named, ← there) (has_sent (parts_at s id) x shard a slivers (rw metadata at iff) is)

-- ---- shards in ascending order

-- numbers that ascend and end below n are below n
pub ascending_below : (low n : ℕ) (xs : List ℕ) → ascends_from low n xs ≡ true → AllByRecursion (λ s. s < n) xs
ascending_below low n [] h = tt
ascending_below low n (x ∷ xs) h =
    let parts = and_parts (nat_le low x) (nat_lt x n && ascends_from (x + 1) n xs) h in
    let rest = and_parts (nat_lt x n) (ascends_from (x + 1) n xs) parts.1 in
    (ltb-true x n rest.0, ascending_below (x + 1) n xs rest.1)

pub ascending_few : (low n : ℕ) (xs : List ℕ) → ascends_from low n xs ≡ true → low ≤ n → length xs + low ≤ n
ascending_few low n [] h most = omega (arith, most)
ascending_few low n (x ∷ xs) h most =
    let parts = and_parts (nat_le low x) (nat_lt x n && ascends_from (x + 1) n xs) h in
    let rest = and_parts (nat_lt x n) (ascends_from (x + 1) n xs) parts.1 in
    let below : x < n = ltb-true x n rest.0 in
    omega (arith, leb-true low x parts.0, ascending_few (x + 1) n xs rest.1 (omega arith))
