-- The leaf digests of a matrix, gathered along its rows and its columns.
use Rattle.wal_commit.proofs.Common.{◌≡◌, ℕ, ◌+◌, ◌-◌, ◌*◌, ◌/◌, ◌<◌, ◌≤◌, List, ◌++◌, length, take, drop, sym, ap, ap₂, append_assoc, ◌∙◌, arith, mul-div_left, mul-add-lt, leaf, pieces, root_of, root_over, AreDigests, symbol, row_of, column_of, row_of-symbol, row_fits, row_long, column_is, column_long, column_part-symbol, Secondary, BlobShape, shard_count, symbol_size, held_index, pair_over, AreLeafDigests}
use Rattle.wal_tree.proofs.Leaves.{pieces-leaves}

-- so many pieces of a size are whole pieces
pub whole_pieces : (count s size long : ℕ) → 0 < s → size ≡ s → long ≡ count * s → long ≡ long / size * size
whole_pieces count s size long some same all =
    let number : long / s ≡ count = ap (λ k. k / s) all ∙ mul-div_left count some in
    all ∙ ap (λ k. k * s) (sym number) ∙ ap (λ k. long / k * k) (sym same)

-- the digests of the symbols behind a zero byte lie as the symbols do
pub digested_are : (digest : List ℕ → List ℕ) (n s : ℕ) (e digests : List ℕ) → 0 < s → length e ≡ n * n * s
    → AreDigests digest 0 s e (length e / s) digests → AreLeafDigests digest n s e digests
unfolding symbol
digested_are digest n s e digests some whole are =
    let number : length e / s ≡ n * n = ap (λ k. k / s) whole ∙ mul-div_left (n * n) some in
    record {
      whole = whole;
      long = are.long ∙ ap (λ k. k * 32) number;
      each = λ r c hr hc. are.each (r * n + c) (let inside = mul-add-lt r n c n hr hc in omega arith);
    }

-- the part that holds a row
pub row_part : (n i start end : ℕ) (digests : List ℕ) → start ≡ i * (n * 32) → end ≡ start + n * 32 → take (end - start) (drop start digests) ≡ row_of n 32 digests i
unfolding row_of
row_part n i start end digests begins ends =
    let long : end - start ≡ n * 32 = omega arith in
    let place : start ≡ i * n * 32 = omega arith in
    ap₂ (λ (a b : ℕ). take a (drop b digests)) long place

-- and lies within them
pub row_within : (n i : ℕ) (digests : List ℕ) → length digests ≡ n * n * 32 → i < n → i * (n * 32) + n * 32 ≤ length digests
row_within n i digests long h = omega (arith, row_fits n 32 digests i long h)

-- the root over digests that are the leaf digests of the pieces of a content
pub root_of-digests : (digest : List ℕ → List ℕ) (n s : ℕ) (digests content : List ℕ) → 0 < s → length digests ≡ n * 32 → length content ≡ n * s
    → ((k : ℕ) → k < n → take 32 (drop (32 * k) digests) ≡ leaf digest (take s (drop (s * k) content)))
    → root_of digest (pieces (length digests / 32) 32 digests) ≡ root_over digest s content
root_of-digests digest n s digests content some long whole each =
    let count : length digests / 32 ≡ n = omega arith in
    let number : length content / s ≡ n = ap (λ k. k / s) whole ∙ mul-div_left n some in
    cc (count, pieces-leaves digest n s digests content each, number)

-- the root over the digests of a row is that over the row
pub row_root : (digest : List ℕ → List ℕ) (n s : ℕ) (e digests : List ℕ) (i : ℕ) → 0 < s → i < n → AreLeafDigests digest n s e digests
    → root_of digest (pieces (length (row_of n 32 digests i) / 32) 32 (row_of n 32 digests i)) ≡ root_over digest s (row_of n s e i)
row_root digest n s e digests i some h are =
    root_of-digests digest n s (row_of n 32 digests i) (row_of n s e i) some (row_long n 32 digests i are.long h) (row_long n s e i are.whole h)
    (λ k hk. row_of-symbol n 32 digests i k hk ∙ are.each i k h hk ∙ ap (leaf digest) (sym (row_of-symbol n s e i k hk)))

-- a symbol of a column
pub column_of-symbol : (n s : ℕ) (e : List ℕ) (r c : ℕ) → length e ≡ n * n * s → r < n → c < n → take s (drop (s * r) (column_of n s e c)) ≡ symbol n s e r c
column_of-symbol n s e r c long hr hc =
    ap (λ (ys : List ℕ). take s (drop (s * r) ys)) (column_is n s e c) ∙ column_part-symbol n s e n r c (omega arith) hr hc

-- the root over the digests of a column is that over the column
pub column_root : (digest : List ℕ → List ℕ) (n s : ℕ) (e digests : List ℕ) (j : ℕ) → 0 < s → j < n → AreLeafDigests digest n s e digests
    → root_of digest (pieces (length (column_of n 32 digests j) / 32) 32 (column_of n 32 digests j)) ≡ root_over digest s (column_of n s e j)
column_root digest n s e digests j some h are =
    root_of-digests digest n s (column_of n 32 digests j) (column_of n s e j) some (column_long n 32 digests j are.long h) (column_long n s e j are.whole h)
    (λ k hk. column_of-symbol n 32 digests k j are.long hk h ∙ are.each k j hk h ∙ ap (leaf digest) (sym (column_of-symbol n s e k j are.whole hk h)))

-- the roots that are appended for a shard, one after the other
pub pair_appended : (digest : List ℕ → List ℕ) (shape : BlobShape) (e old middle new row column : List ℕ) (shard held : ℕ)
    → row ≡ root_over digest (symbol_size shape.f shape.length) (row_of (shard_count shape.f) (symbol_size shape.f shape.length) e shard)
    → column ≡ root_over digest (symbol_size shape.f shape.length) (column_of (shard_count shape.f) (symbol_size shape.f shape.length) e held)
    → held ≡ held_index shape.format shape.f Secondary shard → middle ≡ old ++ row → new ≡ middle ++ column
    → new ≡ old ++ pair_over digest shape e shard
pair_appended digest shape e old middle new row column shard held own crossing at one two =
    cc (two, one, append_assoc old row column, own, crossing, at)
