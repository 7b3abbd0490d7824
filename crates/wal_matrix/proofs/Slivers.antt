-- The rows and columns of a matrix, and its slivers.
use Rattle.wal_matrix.proofs.Common.{◌≡◌, ℕ, ◌+◌, ◌*◌, ◌<◌, ◌≤◌, List, length, take, drop, refl, sym, ap, ◌∙◌, arith, length-take, region, shard_count, row_count, column_count, symbol, row_of, primary_of, column_part, column_of, secondary_of, mul_comm}
use Rattle.wal_matrix.proofs.Runs.{pieces_front, length-pieces, region_long}
use Rattle.wal_matrix.proofs.Places.{run_fits, part_fits}
use Rattle.wal_matrix.proofs.Symbols.{symbol_long, joined-symbol, column_symbol}

-- a row is the run at its number
pub row_is : (n s : ℕ) (e : List ℕ) (i : ℕ) → row_of n s e i ≡ region (n * s) e i
unfolding row_of
row_is n s e i = let start : i * n * s ≡ n * s * i = omega arith in ap (λ (k : ℕ). take (n * s) (drop k e)) start

-- a row of a whole matrix lies within it
pub row_fits : (n s : ℕ) (e : List ℕ) (i : ℕ) → length e ≡ n * n * s → i < n → n * s * i + n * s ≤ length e
row_fits n s e i long h = omega (arith, run_fits i n (n * s) h)

pub row_long : (n s : ℕ) (e : List ℕ) (i : ℕ) → length e ≡ n * n * s → i < n → length (row_of n s e i) ≡ n * s
row_long n s e i long h = ap length (row_is n s e i) ∙ region_long (n * s) i e (row_fits n s e i long h)

pub primary_is : (f s : ℕ) (e : List ℕ) (i : ℕ) → primary_of f s e i ≡ take (column_count f * s) (row_of (shard_count f) s e i)
unfolding primary_of
primary_is f s e i = refl

pub primary_long : (f s : ℕ) (e : List ℕ) (i : ℕ) → length e ≡ shard_count f * shard_count f * s → i < shard_count f
    → length (primary_of f s e i) ≡ column_count f * s
primary_long f s e i long h =
    ap length (primary_is f s e i)
    ∙ omega (
      arith,
      length-take (column_count f * s) (row_of (shard_count f) s e i),
      row_long (shard_count f) s e i long h,
      part_fits (column_count f) (shard_count f) s (omega arith),
    )

pub column_is : (n s : ℕ) (e : List ℕ) (j : ℕ) → column_of n s e j ≡ column_part n s e n j
unfolding column_of
column_is n s e j = refl

pub secondary_is : (f s : ℕ) (e : List ℕ) (j : ℕ) → secondary_of f s e j ≡ column_part (shard_count f) s e (row_count f) j
unfolding secondary_of
secondary_is f s e j = refl

-- the first symbols of a column have all their bytes
pub column_part_long : (n s : ℕ) (e : List ℕ) (rows j : ℕ) → rows * n * s ≤ length e → j < n → length (column_part n s e rows j) ≡ rows * s
unfolding column_part
column_part_long n s e rows j room h = length-pieces (λ r. symbol n s e r j) s rows (λ r hr. symbol_long n s e rows r j room hr h)

-- the symbol of a row at a column
pub row_of-symbol : (n s : ℕ) (e : List ℕ) (r c : ℕ) → c < n → region s (row_of n s e r) c ≡ symbol n s e r c
row_of-symbol n s e r c h = ap (λ (ys : List ℕ). region s ys c) (row_is n s e r) ∙ joined-symbol n s e r c h

-- the symbol of a column at a row
pub column_part-symbol : (n s : ℕ) (e : List ℕ) (rows r c : ℕ) → rows * n * s ≤ length e → r < rows → c < n
    → region s (column_part n s e rows c) r ≡ symbol n s e r c
column_part-symbol n s e rows r c room hr hc =
    ap (λ (k : ℕ). take s (drop k (column_part n s e rows c))) (mul_comm s r) ∙ column_symbol n s e rows r c room hr hc

-- a secondary sliver is the front of its column
pub secondary-front : (f s : ℕ) (e : List ℕ) (j : ℕ) → length e ≡ shard_count f * shard_count f * s → j < shard_count f
    → secondary_of f s e j ≡ take (row_count f * s) (column_of (shard_count f) s e j)
unfolding secondary_of column_of column_part
secondary-front f s e j long h =
    let n = shard_count f in
    pieces_front (λ r. symbol n s e r j) s (column_of n s e j) (row_count f)
    (λ r hr. sym (column_symbol n s e n r j (omega arith) (omega arith) h))

pub secondary_long : (f s : ℕ) (e : List ℕ) (j : ℕ) → length e ≡ shard_count f * shard_count f * s → j < shard_count f
    → length (secondary_of f s e j) ≡ row_count f * s
secondary_long f s e j long h =
    let n = shard_count f in
    ap length (secondary_is f s e j)
    ∙ column_part_long n s e (row_count f) j (omega (arith, part_fits (row_count f) n (n * s) (omega arith))) h

pub column_long : (n s : ℕ) (e : List ℕ) (j : ℕ) → length e ≡ n * n * s → j < n → length (column_of n s e j) ≡ n * s
column_long n s e j long h = ap length (column_is n s e j) ∙ column_part_long n s e n j (omega arith) h
