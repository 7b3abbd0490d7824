-- The blocks of a padded text: where they lie, and how the hash value follows them.
use Rattle.wal_lanes.proofs.Common.{◌≡◌, ℕ, zero, suc, ◌+◌, ◌-◌, ◌*◌, ◌/◌, ◌%◌, ◌^◌, ◌<◌, ◌≤◌, List, ◌∷◌, ◌++◌, length, take, drop, replicate, refl, sym, ap, ◌∙◌, arith, length-append, length-drop, append_assoc, drop-append-le, drop-drop, length-replicate, length-take-le, take-append-le, take_all, to_be_bytes, w64, compress, final_hash, hash_after, padded_message, padding, hash_after-append, hash_after_next, last_blocks, put_at, tail_length, text}
use Rattle.wal_lanes.proofs.Parts.{part_of_part, piece_within, put_put}

-- no block yet
pub hash_none : (h p st : List ℕ) (n : ℕ) → n ≡ 0 → st ≡ h → st ≡ hash_after h p n
unfolding hash_after
hash_none h p st n none e = rw none e

-- one block more
pub hash_next : (h p st r b : List ℕ) (n m : ℕ) → st ≡ hash_after h p n → r ≡ compress st b → b ≡ take 64 (drop (n * 64) p) → m ≡ n + 1 → r ≡ hash_after h p m
hash_next h p st r b n m held is block next = is ∙ (λ i. compress (held i) (block i)) ∙ sym (hash_after_next h p n) ∙ ap (hash_after h p) (sym next)

pub length-text : (prefix size : ℕ) (content : List ℕ) (k w : ℕ) → k < w → length content ≡ w * size → length (text prefix size content k) ≡ size + 1
length-text prefix size content k w few all =
    let room = piece_within k w size (length content) few all in
    omega (arith, length-take-le size (drop (k * size) content) (omega (arith, length-drop (k * size) content)))

-- the hash value after more blocks, which are those of a text that goes on behind the blocks before
pub hash_more : (h p : List ℕ) (b n l : ℕ) → n * 64 ≤ l
    → hash_after (hash_after h p b) (take l (drop (b * 64) p)) n ≡ hash_after h p (b + n)
unfolding hash_after
hash_more h p b zero l within = let e : b + 0 ≡ b = omega arith in rw e
hash_more h p b (suc n) l within =
    let e : b * 64 + n * 64 ≡ (b + n) * 64 = omega arith in
    let up : b + suc n ≡ suc (b + n) = omega arith in
    rw (hash_more h p b n l (omega arith), part_of_part (b * 64) (n * 64) 64 l p _ refl (omega arith), e, up)

-- the front of a message is the front of the padded message
pub front_padded : (m : List ℕ) (at n : ℕ) → at + n ≤ length m → take n (drop at m) ≡ take n (drop at (padded_message m))
front_padded m at n within =
    rw (
      drop-append-le at m (padding (length m)) (omega arith),
      take-append-le n (drop at m) (padding (length m)) (omega (arith, length-drop at m)),
    )

-- a block behind the first lies within the piece
pub middle_block : (prefix size : ℕ) (content : List ℕ) (k b at : ℕ) → 1 ≤ b → b * 64 + 64 ≤ size + 1 → at ≡ k * size + (64 * b - 1)
    → take 64 (drop at content) ≡ take 64 (drop (b * 64) (text prefix size content k))
middle_block prefix size content k b at low high place =
    let one : b * 64 ≡ suc (64 * b - 1) = omega arith in
    rw (place, one) (sym (part_of_part (k * size) (64 * b - 1) 64 size content _ refl (omega arith)))

-- what follows the whole blocks of a message
pub last_blocks_are : (seen : ℕ) (m : List ℕ) → last_blocks seen m ≡ drop (length m / 64 * 64) m ++ padding (seen + length m)
last_blocks_are seen m = drop-append-le (length m / 64 * 64) m (padding (seen + length m)) (omega arith)

-- of a message of which some blocks came before
pub last_blocks_behind : (seen : ℕ) (m rest : List ℕ) → seen % 64 ≡ 0 → 1 ≤ length rest → drop seen m ≡ rest
    → last_blocks seen rest ≡ drop (length m / 64 * 64) (padded_message m)
last_blocks_behind seen m rest edge some is =
    let long : length rest ≡ length m - seen = ap length (sym is) ∙ length-drop seen m in
    let all : seen + length rest ≡ length m = omega arith in
    let at : seen + length rest / 64 * 64 ≡ length m / 64 * 64 = omega arith in
    let front : drop (length rest / 64 * 64) rest ≡ drop (length m / 64 * 64) m =
    ap (drop (length rest / 64 * 64)) (sym is) ∙ drop-drop (length rest / 64 * 64) seen m ∙ ap (λ (i : ℕ). drop i m) at in
    last_blocks_are seen rest ∙ (λ i. front i ++ padding (all i))
    ∙ sym (drop-append-le (length m / 64 * 64) m (padding (length m)) (omega arith))

length-zeros : (n : ℕ) → length {A = ℕ} (0x80 ∷ replicate n 0) ≡ n + 1
length-zeros n = omega (arith, length-replicate {A = ℕ} n 0)

length-padding : (n : ℕ) → length (padding n) ≡ (119 - n % 64) % 64 + 9
length-padding n =
    let z : ℕ = (119 - n % 64) % 64 in
    let bits : length (to_be_bytes w64 (n * 8 % 2 ^ 64)) ≡ 8 = refl in
    omega (arith, length-append (0x80 ∷ replicate z 0) (to_be_bytes w64 (n * 8 % 2 ^ 64)), length-zeros z, bits)

pub length-last_blocks : (seen : ℕ) (m : List ℕ) → seen % 64 ≡ 0 → length (last_blocks seen m) ≡ tail_length (length m)
length-last_blocks seen m edge =
    omega (
      arith,
      ap length (last_blocks_are seen m),
      length-append (drop (length m / 64 * 64) m) (padding (seen + length m)),
      length-drop (length m / 64 * 64) m,
      length-padding (seen + length m),
    )

pub length-last_blocks_of : (seen prefix : ℕ) (piece : List ℕ) (size : ℕ) → seen % 64 ≡ 0 → length piece ≡ size → length (last_blocks seen (prefix ∷ piece)) ≡ tail_length (size + 1)
length-last_blocks_of seen prefix piece size edge long =
    let one : length (prefix ∷ piece) ≡ size + 1 = omega (arith, long) in
    length-last_blocks seen (prefix ∷ piece) edge ∙ ap tail_length one

-- the last blocks, put in three parts
pub tail_put : (seen at n : ℕ) (old a b new m rest pad bits : List ℕ) → seen % 64 ≡ 0 → n ≡ seen + length m → a ≡ put_at at old rest → rest ≡ drop (length m / 64 * 64) m
    → b ≡ put_at (at + n % 64) a pad → pad ≡ 0x80 ∷ replicate ((119 - n % 64) % 64) 0
    → new ≡ put_at (at + n % 64 + (119 - n % 64) % 64 + 1) b bits → bits ≡ to_be_bytes w64 (n * 8 % 2 ^ 64)
    → at + tail_length n ≤ length old → new ≡ put_at at old (last_blocks seen m)
tail_put seen at n old a b new m rest pad bits edge is first ends second zeros third count room =
    let rest_long : length rest ≡ n % 64 = omega (arith, ap length ends, length-drop (length m / 64 * 64) m) in
    let pad_long : length pad ≡ (119 - n % 64) % 64 + 1 = ap length zeros ∙ length-zeros ((119 - n % 64) % 64) in
    let bits_long : length bits ≡ 8 = ap length count in
    let two : b ≡ put_at at old (rest ++ pad) = second ∙ put_put at (at + n % 64) old a rest pad first (omega arith) (omega arith) in
    let both : length (rest ++ pad) ≡ n % 64 + ((119 - n % 64) % 64 + 1) = omega (arith, length-append rest pad) in
    let padded : pad ++ bits ≡ padding (seen + length m) = (λ i. zeros i ++ count i) ∙ ap padding is in
    let all : (rest ++ pad) ++ bits ≡ last_blocks seen m =
    append_assoc rest pad bits ∙ (λ i. ends i ++ padded i) ∙ sym (last_blocks_are seen m) in
    third ∙ put_put at (at + n % 64 + (119 - n % 64) % 64 + 1) old b (rest ++ pad) bits two (omega arith) (omega arith) ∙ ap (put_at at old) all

-- what follows the whole blocks of a text, of which there are some
pub rest_long : (prefix : ℕ) (piece : List ℕ) (whole : ℕ) → 0 < whole → whole ≤ length piece + 1 → take (length piece + 1 - whole) (drop (whole - 1) piece) ≡ drop whole (prefix ∷ piece)
rest_long prefix piece zero some within = absurd (omega arith)
rest_long prefix piece (suc n) some within =
    let less : suc n - 1 ≡ n = omega arith in
    ap (λ (i : ℕ). take (length piece + 1 - suc n) (drop i piece)) less ∙ take_all (length piece + 1 - suc n) (drop n piece) (omega (arith, length-drop n piece))

-- and of which there are none
pub rest_short : (prefix : ℕ) (piece : List ℕ) (whole : ℕ) → whole ≤ 0 → prefix ∷ piece ≡ drop whole (prefix ∷ piece)
rest_short prefix piece whole none = let e : whole ≡ 0 = omega arith in rw e refl

blocks_of : (m : List ℕ) → length (padded_message m) ≡ length m / 64 * 64 + tail_length (length m)
blocks_of m = omega (arith, length-append m (padding (length m)), length-padding (length m))

-- the hash value after block j of the last blocks, which lie at p
last_block : (h m st r tails : List ℕ) (p at j next long : ℕ) → take long (drop p tails) ≡ drop (length m / 64 * 64) (padded_message m)
    → j * 64 + 64 ≤ long → st ≡ hash_after h (padded_message m) (length m / 64 + j) → at ≡ p + j * 64
    → r ≡ compress st (take 64 (drop at tails)) → next ≡ length m / 64 + j + 1 → r ≡ hash_after h (padded_message m) next
last_block h m st r tails p at j next long held room before place is up =
    let e : length m / 64 * 64 + j * 64 ≡ (length m / 64 + j) * 64 = omega arith in
    let rest = drop (length m / 64 * 64) (padded_message m) in
    hash_next h (padded_message m) st r _ (length m / 64 + j) next before is
    (rw (place, ← part_of_part p (j * 64) 64 long tails rest (sym held) room) (rw (drop-drop (j * 64) (length m / 64 * 64) (padded_message m), e))) up

-- after one last block
pub last_one : (h m st r tails : List ℕ) (p at long : ℕ) → long ≡ tail_length (length m) → long ≡ 64 → take long (drop p tails) ≡ drop (length m / 64 * 64) (padded_message m)
    → st ≡ hash_after h (padded_message m) (length m / 64) → at ≡ p → r ≡ compress st (take 64 (drop at tails)) → r ≡ final_hash h m
last_one h m st r tails p at long is one held before place next =
    let none : length m / 64 + 0 ≡ length m / 64 = omega arith in
    last_block h m st r tails p at 0 (length (padded_message m) / 64) long held (omega arith) (rw none before) (omega arith) next (omega (arith, blocks_of m))

-- after two last blocks
pub last_two : (h m st r t tails : List ℕ) (p at after long : ℕ) → long ≡ tail_length (length m) → 64 < long → take long (drop p tails) ≡ drop (length m / 64 * 64) (padded_message m)
    → st ≡ hash_after h (padded_message m) (length m / 64) → at ≡ p → r ≡ compress st (take 64 (drop at tails)) → after ≡ p + 64 → t ≡ compress r (take 64 (drop after tails)) → t ≡ final_hash h m
last_two h m st r t tails p at after long is two held before place next behind last =
    let none : length m / 64 + 0 ≡ length m / 64 = omega arith in
    let wide : 128 ≤ long = omega arith in
    let first = last_block h m st r tails p at 0 (length m / 64 + 1) long held (omega arith) (rw none before) (omega arith) next (omega arith) in
    last_block h m r t tails p after 1 (length (padded_message m) / 64) long held (omega arith) first (omega arith) last (omega (arith, blocks_of m))

-- the tail of a message of which some blocks came before
pub tail_of_message : (seen : ℕ) (m rest : List ℕ) (size : ℕ) → seen % 64 ≡ 0 → length rest ≡ size + 1 → drop seen m ≡ rest → tail_length (size + 1) ≡ tail_length (length m)
tail_of_message seen m rest size edge long is =
    let all : length m - seen ≡ size + 1 = sym (length-drop seen m) ∙ ap length is ∙ long in
    let same : (size + 1) % 64 ≡ length m % 64 = omega arith in
    ap (λ (r : ℕ). r + (119 - r) % 64 + 9) same

-- the whole blocks of a message are those of the padded message
pub padded_after : (h m st r text : List ℕ) (size : ℕ) → length m ≡ size + 1 → st ≡ h → r ≡ hash_after st text ((size + 1) / 64) → text ≡ m
    → r ≡ hash_after h (padded_message m) (length m / 64)
padded_after h m st r text size long begin is same =
    rw (is, begin, same, ← long, hash_after-append h m (padding (length m)) (length m / 64) (omega arith))
