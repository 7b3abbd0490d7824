-- Rows of weights: what they sum to, and how a table grows by them.
use Rattle.wal_code.proofs.Common.{◌≡◌, ◌∙◌, ap, ℕ, List, ◌+◌, ◌*◌, ◌<◌, ◌≤◌, ◌++◌, length, get_or, slice_index, arith, length-append, inl, inr, get_or_append_left, get_or-append-add, times, xor_below, Gf, coefficient, combination, Interpolates, element_at, AreWeights}
use Rattle.std.proofs.Math.Nat.{mul-le-mul_right, eq-or-lt_of_le}
use Rattle.wal_code.specs.inside.Table.{IsTable}
use Rattle.wal_code.proofs.Evaluation.{interpolates}
use Rattle.wal_code.proofs.Points.{words_of}
use Rattle.wal_code.proofs.Totals.{xor_below-same}

-- the sum of the weights times the values is the combination of the values
pub weighted : (known values : List ℕ) (weights : List Gf) (w : ℕ) → length values ≡ length known → AreWeights known w weights →
    xor_below (length values) (λ i. times (element_at weights i) (slice_index values i)) ≡ combination known (slice_index values) w
weighted known values weights w e h =
    rw e
    (xor_below-same (length known) (λ i. times (element_at weights i) (slice_index values i))
    (λ i. times (coefficient known (slice_index known i) w) (slice_index values i))
    (λ i l. ap (λ (s : ℕ). times s (slice_index values i)) (h i l)))

-- the first n rows of a table have their coefficients
abbrev pub HasRows : List ℕ → List ℕ → ℕ → List Gf → Type 0
HasRows known wanted n table =
    (length table ≡ n * length known) ×
    ((w k : ℕ) → w < n → k < length known →
    element_at table (w * length known + k) ≡ coefficient known (slice_index known k) (slice_index wanted w))

-- a row of weights is the next row
pub row_added : (known wanted : List ℕ) (n : ℕ) (table row : List Gf) → HasRows known wanted n table →
    length row ≡ length known → AreWeights known (slice_index wanted n) row → HasRows known wanted (n + 1) (table ++ row)
row_added known wanted n table row h e a = (
  omega (arith, length-append table row, h.0),
  λ w k l m. elim (eq-or-lt_of_le (let b : w ≤ n = omega arith in b)) [
    | inl f ↦ rw (f, ← h.0) (ap (λ (g : Gf). g.0) (get_or-append-add table row k (record { 0 = 0 })) ∙ a k m)
    | inr f ↦
        let below : (w + 1) * length known ≤ n * length known = mul-le-mul_right (length known) (omega arith) in
        ap (λ (g : Gf). g.0) (get_or_append_left table row (record { 0 = 0 }) (w * length known + k) (omega (arith, h.0, below))) ∙ h.1 w k f m
  ],
)

pub table_interpolates : (known wanted : List ℕ) (table : List Gf) → IsTable known wanted table → (w : ℕ) → w < length wanted →
    Interpolates known (slice_index wanted w)
table_interpolates known wanted table h w l =
    interpolates known (slice_index wanted w) h.distinct
    (words_of known (λ i m. let b : get_or known i 0 < 1000 = h.known_below i 0 m in omega arith))
    (let b : get_or wanted w 0 < 1000 = h.wanted_below w 0 l in omega arith)
