-- Places in a block of rows of symbols.
use Rattle.wal_matrix.proofs.Common.{◌≡◌, ℕ, ◌+◌, ◌*◌, ◌/◌, ◌%◌, ◌∙◌, ◌<◌, ◌≤◌, ap, arith, mul-add-lt, mul-le, row_fits, mul_comm, mul-mod_left, le-mul_of_pos_right}

-- one run of s bytes more fits
pub run_fits : (r rows s : ℕ) → r < rows → r * s + s ≤ rows * s
run_fits r rows s h = row_fits r s rows s h (omega arith)

-- the symbol at a row and a column lies within the block
pub place_fits : (r rows c columns s : ℕ) → r < rows → c < columns → s * (r * columns + c) + s ≤ rows * columns * s
place_fits r rows c columns s hr hc =
    let inside : r * columns + c < rows * columns = omega (arith, mul-add-lt r columns c rows hr hc, mul_comm rows columns) in
    omega (arith, run_fits (r * columns + c) (rows * columns) s inside)

-- so does the number of it, where symbols have bytes
pub number_fits : (r rows c columns s : ℕ) → r < rows → c < columns → 0 < s → r * columns + c < rows * columns * s
number_fits r rows c columns s hr hc hs =
    omega (arith, mul-add-lt r columns c rows hr hc, mul_comm rows columns, le-mul_of_pos_right (rows * columns) hs)

-- one row is no longer than all
pub product_fits : (columns rows s : ℕ) → 0 < columns → rows * s ≤ columns * rows * s
product_fits columns rows s h = omega (arith, le-mul_of_pos_right (rows * s) h)

-- fewer runs are no longer
pub part_fits : (known total s : ℕ) → known ≤ total → known * s ≤ total * s
part_fits known total s h = mul-le known s total s h (omega arith)

-- a product with an even number
pub even_product : (n s : ℕ) → s % 2 ≡ 0 → n * s % 2 ≡ 0
even_product n s h =
    let half : s ≡ 2 * (s / 2) = omega arith in
    let e : n * s ≡ n * (s / 2) * 2 = ap (λ (k : ℕ). n * k) half ∙ omega arith in
    ap (λ (k : ℕ). k % 2) e ∙ mul-mod_left (n * (s / 2)) 2
