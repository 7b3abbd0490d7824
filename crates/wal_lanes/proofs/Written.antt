-- Digests that are written one after the other.
use Rattle.wal_lanes.proofs.Common.{length-append, w32, ◌≡◌, ℕ, zero, suc, ◌+◌, ◌*◌, ◌/◌, ◌<◌, ◌≤◌, List, length, take, drop, slice_index, refl, ap, ◌∙◌, arith, add-one, to_be_bytes, digest_bytes, put_at, AreDigests, text}
use Rattle.wal_lanes.proofs.Parts.{length-put_at, part_of_part, parts_put, piece_within, put_put}

pub length-digest_bytes : (h : List ℕ) (n : ℕ) → length (digest_bytes h n) ≡ 4 * n
unfolding digest_bytes
length-digest_bytes h zero = refl
length-digest_bytes h (suc n) =
    let last : length (to_be_bytes w32 (slice_index h n)) ≡ 4 = refl in
    omega (arith, length-digest_bytes h n, last, length-append (digest_bytes h n) (to_be_bytes w32 (slice_index h n)))

-- one word more is put
pub word_put : (at n : ℕ) (old new h ys : List ℕ) (i : ℕ) → new ≡ put_at at old (digest_bytes h i) → ys ≡ to_be_bytes w32 (slice_index h i) → n ≡ at + 4 * i → at + 4 * i + 4 ≤ length old
    → put_at n new ys ≡ put_at at old (digest_bytes h (i + 1))
unfolding digest_bytes
word_put at n old new h ys i held is next room =
    let four : length ys ≡ 4 = ap length is in
    let long = length-digest_bytes h i in
    rw (put_put at n old new (digest_bytes h i) ys held (omega arith) (omega arith), is, add-one)

module _ (digest : List ℕ → List ℕ) (prefix size : ℕ) (content : List ℕ) where
  -- bytes of the right length have the first 0 digests right
  pub are_none : (digests : List ℕ) → length digests ≡ length content / size * 32 → AreDigests digest prefix size content 0 digests
  are_none digests long = record { long = long; each = λ place l. absurd (omega arith) }

  -- if many digests are right, so are the fewer first ones
  pub are_fewer : (digests : List ℕ) (few many : ℕ) → few ≤ many → AreDigests digest prefix size content many digests → AreDigests digest prefix size content few digests
  are_fewer digests few many less are = record { long = are.long; each = λ place l. are.each place (omega arith) }

  -- one digest more is put
  pub are_more : (old new ys : List ℕ) (at place : ℕ) → AreDigests digest prefix size content place old → new ≡ put_at at old ys → at ≡ place * 32 → at + 32 ≤ length old
      → length ys ≡ 32 → ys ≡ digest (text prefix size content place) → AreDigests digest prefix size content (place + 1) new
  are_more old new ys at place are is here room long digests = record {
    long = ap length is ∙ length-put_at at old ys (omega arith) ∙ are.long;
    each = parts_put 32 (λ (k : ℕ). digest (text prefix size content k)) old new ys place at here is digests long (omega arith) are.each;
  }

-- the text of a piece of some pieces
pub text_within : (prefix size : ℕ) (content pieces : List ℕ) (first w k : ℕ) → k < w → pieces ≡ take (w * size) (drop (first * size) content)
    → text prefix size pieces k ≡ text prefix size content (first + k)
text_within prefix size content pieces first w k few are =
    let e : first * size + k * size ≡ (first + k) * size = omega arith in
    rw (part_of_part (first * size) (k * size) size _ content pieces are (piece_within k w size (w * size) few refl), e)
