-- The symbols of a block, and the columns that are copied symbol by symbol.
use Rattle.wal_matrix.proofs.Common.{◌≡◌, ℕ, ◌+◌, ◌*◌, ◌<◌, ◌≤◌, List, ◌++◌, length, take, drop, sym, ap, ◌∙◌, arith, length-take, length-drop, mul_comm, column_part, symbol, region}
use Rattle.wal_matrix.proofs.Runs.{pieces_more, piece_at, part_of_part}
use Rattle.wal_matrix.proofs.Places.{place_fits, run_fits}

-- a symbol is the run at its number
pub symbol_is : (n s : ℕ) (e : List ℕ) (r c : ℕ) → symbol n s e r c ≡ region s e (r * n + c)
unfolding symbol
symbol_is n s e r c = ap (λ (k : ℕ). take s (drop k e)) (mul_comm (r * n + c) s)

-- one more symbol of a column
pub column_more : (n s : ℕ) (e : List ℕ) (rows c : ℕ) → column_part n s e (rows + 1) c ≡ column_part n s e rows c ++ symbol n s e rows c
unfolding column_part
column_more n s e rows c = pieces_more (λ r. symbol n s e r c) rows

-- a symbol within the block has all its bytes
pub symbol_long : (n s : ℕ) (e : List ℕ) (rows r c : ℕ) → rows * n * s ≤ length e → r < rows → c < n → length (symbol n s e r c) ≡ s
unfolding symbol
symbol_long n s e rows r c room hr hc =
    omega (arith, length-take s (drop ((r * n + c) * s) e), length-drop ((r * n + c) * s) e, place_fits r rows c n s hr hc)

-- a symbol of a column part
pub column_symbol : (n s : ℕ) (e : List ℕ) (rows r c : ℕ) → rows * n * s ≤ length e → r < rows → c < n
    → take s (drop (r * s) (column_part n s e rows c)) ≡ symbol n s e r c
unfolding column_part
column_symbol n s e rows r c room hr hc =
    piece_at (λ k. symbol n s e k c) s rows r (λ k h. symbol_long n s e rows k c room h hc) hr

-- a symbol of a row
pub row_symbol : (n s : ℕ) (e : List ℕ) (r c : ℕ) → c < n → symbol n s e r c ≡ take s (drop (c * s) (region (n * s) e r))
unfolding symbol
row_symbol n s e r c h =
    let place : (r * n + c) * s ≡ n * s * r + c * s = omega arith in
    ap (λ (k : ℕ). take s (drop k e)) place ∙ sym (part_of_part s (c * s) (n * s) (n * s * r) e (run_fits c n s h))

-- a symbol of one of joined runs
pub joined-symbol : (m s : ℕ) (joined : List ℕ) (k c : ℕ) → c < m
    → region s (region (m * s) joined k) c ≡ symbol m s joined k c
joined-symbol m s joined k c hc =
    ap (λ (a : ℕ). take s (drop a (region (m * s) joined k))) (mul_comm s c) ∙ sym (row_symbol m s joined k c hc)

-- a block of which each row is a column of another
pub turned : (rows columns s : ℕ) (from into : List ℕ) → rows * columns * s ≤ length from
    → ((c : ℕ) → c < columns → region (rows * s) into c ≡ column_part columns s from rows c)
    → (r c : ℕ) → r < rows → c < columns → symbol rows s into c r ≡ symbol columns s from r c
turned rows columns s from into room same r c hr hc =
    row_symbol rows s into c r hr ∙ ap (λ (ys : List ℕ). take s (drop (r * s) ys)) (same c hc) ∙ column_symbol columns s from rows r c room hr hc
