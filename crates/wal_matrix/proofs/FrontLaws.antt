-- The columns that are made a few at a time are those of the extended matrix.
use Rattle.wal_matrix.proofs.Common.{◌≡◌, ℕ, ◌+◌, ◌-◌, ◌*◌, ◌/◌, ◌%◌, ◌<◌, ◌≤◌, min, List, ◌++◌, length, take, drop, get_or, sym, ap, subst, ◌∙◌, arith, ⊎_elim, length-append, length-take, length-drop, Fits, w8, mul_comm, mul-le-mul_left, mul-le-mul_right, cases_lt, div-mul-add, mod-mul-add, mul-add-lt, get_or_append_left, get_or-append_right, get_or_past, get_or-take, get_or-drop, take_at, IsCodeword, word_at, region, region-append_left, region-drop, shard_count, row_count, column_count, symbol_size, ArePut, symbol, padded, IsMatrixOf, IsExtended, IsRowFrom}
use borrow.Rule.Slice.PartMut.{put_mid, post_of}
use Rattle.wal_matrix.specs.Front.{AreColumns}
use Rattle.wal_matrix.proofs.Codewords.{AreBytes, bytes_of_part, region_after}
use Rattle.wal_matrix.proofs.MatrixLaws.{bytes_within, same_runs}
use Rattle.wal_matrix.proofs.Places.{place_fits, run_fits}
use Rattle.wal_matrix.proofs.RowLaws.{row_source}
use Rattle.wal_matrix.proofs.Runs.{region_long, region-put_other, region-put_same}
use Rattle.wal_matrix.proofs.Symbols.{symbol_is, symbol_long}
use Rattle.wal_matrix.proofs.TurnedLaws.{symbol_kept, column_codeword}

-- what is left to be filled with zeros
pub rest_to_fill : (h : ℕ) (copied out : List ℕ) → length copied ≡ h → h ≤ length out
    → length (take (length (copied ++ drop h out) - h) (drop h (copied ++ drop h out))) ≡ length out - h
rest_to_fill h copied out long within = simp (length-take, length-drop, length-append) (omega arith)

-- bytes that were copied, and zeros behind them
pub laid_bytes : (start from to h m : ℕ) (bytes out copied zeros : List ℕ) → from ≡ min start (length bytes) → to ≡ min (start + length out) (length bytes)
    → h ≡ to - from → copied ≡ take (to - from) (drop from bytes) → length zeros ≡ length out - h → ((i : ℕ) → i < length zeros → get_or zeros i 0 ≡ 0)
    → (i : ℕ) → i < length out → get_or (put_mid h m (copied ++ drop h out) zeros) i 0 ≡ get_or bytes (start + i) 0
laid_bytes start from to h m bytes out copied zeros is_from is_to held is long none i inside =
    let rest = post_of h m (copied ++ drop h out) in
    let part_long = length-take (to - from) (drop from bytes) in
    let tail_long = length-drop from bytes in
    let copied_long : length copied ≡ h = ap length is ∙ omega arith in
    let front : take h (copied ++ drop h out) ≡ copied = take_at copied (drop h out) h copied_long in
    ⊎_elim
    (λ early.
    let same : from + i ≡ start + i = omega arith in
    let here = get_or_append_left copied (zeros ++ rest) 0 i (omega arith) in
    let taken = get_or-take (to - from) (drop from bytes) i 0 (omega arith) in
    cc (front, here, is, taken, get_or-drop from bytes i 0, same))
    (λ late.
    let behind = get_or-append_right copied (zeros ++ rest) h i 0 copied_long late in
    let zero_there = get_or_append_left zeros rest 0 (i - h) (omega arith) in
    cc (front, behind, zero_there, none (i - h) (omega arith), get_or_past bytes (start + i) 0 (omega arith)))
    (cases_lt i h)

-- the place of a symbol of the source block
pub source_place : (f s r c : ℕ) → r < row_count f → c < column_count f → (r * column_count f + c) * s + s ≤ shard_count f * shard_count f * s
source_place f s r c hr hc =
    let n = shard_count f in
    let m = column_count f in
    let number : r * m + c ≤ r * n + c = (let wider : m ≤ n = omega arith in omega (arith, mul-le-mul_left r wider)) in
    let wide : (r * m + c) * s ≤ (r * n + c) * s = mul-le-mul_right s number in
    omega (arith, wide, place_fits r n c n s (omega arith) (omega arith))

pub bytes_of_symbol : (n s : ℕ) (e : List ℕ) (r c : ℕ) → AreBytes e → AreBytes (symbol n s e r c)
unfolding symbol
bytes_of_symbol n s e r c bytes = bytes_of_part s ((r * n + c) * s) e bytes

-- a row that begins with the blob's bytes at its place is that of the matrix
pub row_symbols : (f s : ℕ) (bytes e row : List ℕ) (r : ℕ) → f ≤ 333 → s % 2 ≡ 0 → s ≡ symbol_size f (length bytes) → IsExtended f bytes e → r < row_count f
    → AreBytes row → length row ≡ shard_count f * s
    → IsRowFrom (column_count f) (shard_count f) s bytes (r * (column_count f * s)) row
    → (c : ℕ) → c < shard_count f → region s row c ≡ symbol (shard_count f) s e r c
row_symbols f s bytes e row r few even size is hr bytes_row long from =
    let n = shard_count f in
    let matrix : IsMatrixOf f s (padded f bytes) e = subst (λ (z : ℕ). IsMatrixOf f z (padded f bytes) e) (sym size) is in
    let deep : r < n = omega arith in
    same_runs (column_count f) n s (λ j. region s row j) (λ j. symbol n s e r j) (omega arith) (omega arith) even
    (λ j hj. region_long s j row (omega (arith, run_fits j n s hj)))
    (λ j hj. symbol_long n s e n r j (omega (arith, matrix.coded.size)) deep hj)
    (λ j. bytes_of_part s (s * j) row bytes_row) (λ j. bytes_of_symbol n s e r j (bytes_within e matrix.coded.fits))
    from.codeword (λ w low. matrix.coded.rows r w deep low)
    (λ j hj. row_source f s bytes row r j size long hr hj from ∙ sym (matrix.source r j hr hj))

-- the redundant symbols of the rows so far
abbrev pub KeptRows : ℕ → ℕ → List ℕ → ℕ → List ℕ → Type 0
KeptRows f s bytes rows kept =
    (e : List ℕ) → IsExtended f bytes e → (r k : ℕ) → r < rows → k < f → symbol f s kept r k ≡ symbol (shard_count f) s e r (column_count f + k)

-- those of one more row
pub kept_more : (f s index : ℕ) (bytes old row : List ℕ) → f ≤ 333 → s % 2 ≡ 0 → s ≡ symbol_size f (length bytes) → index < row_count f
    → length old ≡ index * (f * s) → AreBytes row → length row ≡ shard_count f * s
    → IsRowFrom (column_count f) (shard_count f) s bytes (index * (column_count f * s)) row
    → KeptRows f s bytes index old → KeptRows f s bytes (index + 1) (old ++ drop (column_count f * s) row)
kept_more f s index bytes old row few even size below long bytes_row long_row from before =
    λ e is r k hr hk.
    let m = column_count f in
    let tail = drop (m * s) row in
    symbol_is f s (old ++ tail) r k
    ∙ ⊎_elim
    (λ less.
    region-append_left s old tail (r * f + k) (omega (arith, long, place_fits r index k f s less hk))
    ∙ sym (symbol_is f s old r k)
    ∙ before e is r k less hk)
    (λ more.
    let same : r ≡ index = omega arith in
    region_after s k (r * f) old tail (long ∙ ap (λ (z : ℕ). z * (f * s)) (sym same) ∙ omega arith)
    ∙ ap (λ (z : ℕ). region s (drop z row) k) (mul_comm m s)
    ∙ region-drop s m row k
    ∙ row_symbols f s bytes e row index few even size is below bytes_row long_row from (m + k) (omega arith)
    ∙ ap (λ (z : ℕ). symbol (shard_count f) s e z (m + k)) (sym same))
    (cases_lt r index)

-- one more symbol is put
pub put_more : (f s first count place m : ℕ) (bytes old part : List ℕ) → 1 ≤ count → place * s + s ≤ length old → length part ≡ s
    → ((e : List ℕ) → IsExtended f bytes e → part ≡ symbol (shard_count f) s e (place / count) (first + place % count))
    → ArePut f s bytes first count place old → ArePut f s bytes first count (place + 1) (put_mid (place * s) m old part)
put_more f s first count place m bytes old part some room long own before =
    λ e is r k hk few.
    let at : place * s ≡ s * place = omega arith in
    symbol_is count s (put_mid (place * s) m old part) r k
    ∙ ⊎_elim
    (λ less.
    region-put_other s (r * count + k) place (place * s) m old part less at (omega arith)
    ∙ sym (symbol_is count s old r k) ∙ before e is r k hk less)
    (λ more.
    let same : r * count + k ≡ place = omega arith in
    let row : place / count ≡ r = ap (λ (z : ℕ). z / count) (sym same) ∙ div-mul-add r count k hk in
    let column : place % count ≡ k = ap (λ (z : ℕ). z % count) (sym same) ∙ mod-mul-add r count k hk in
    rw (same, region-put_same s place (place * s) m old part at (omega arith) long, ← row, ← column) (own e is))
    (cases_lt (r * count + k) place)

-- columns that were extended from their first symbols
pub columns_extended : (f s count : ℕ) (old new : List ℕ) → f ≤ 333 → s % 2 ≡ 0 → length new ≡ shard_count f * (count * s) → AreBytes new
    → take (row_count f * (count * s)) new ≡ take (row_count f * (count * s)) old
    → ((w : ℕ) → 2 * w < count * s → IsCodeword (row_count f) (shard_count f) (λ i. word_at (region (count * s) new i) w))
    → (bytes : List ℕ) (first : ℕ) → s ≡ symbol_size f (length bytes) → first + count ≤ shard_count f
    → ArePut f s bytes first count (row_count f * count) old → AreColumns f s bytes first count new
columns_extended f s count old new few even long bytes_new kept codewords bytes first size fits put =
    λ e is r k hr hk.
    let n = shard_count f in
    let rows = row_count f in
    let matrix : IsMatrixOf f s (padded f bytes) e = subst (λ (z : ℕ). IsMatrixOf f z (padded f bytes) e) (sym size) is in
    let far : first + k < n = omega arith in
    same_runs rows n s (λ i. symbol count s new i k) (λ i. symbol n s e i (first + k)) (omega arith) (omega arith) even
    (λ i hi. symbol_long count s new n i k (omega (arith, long)) hi hk)
    (λ i hi. symbol_long n s e n i (first + k) (omega (arith, matrix.coded.size)) hi far)
    (λ i. bytes_of_symbol count s new i k bytes_new)
    (λ i. bytes_of_symbol n s e i (first + k) (bytes_within e matrix.coded.fits))
    (λ w low. column_codeword rows n count s new even codewords k w hk low)
    (λ w low. matrix.coded.columns (first + k) w far low)
    (λ i hi.
    let below : i * count + k < rows * count = omega (arith, mul-add-lt i count k rows hi hk, mul_comm rows count) in
    symbol_kept rows count s new old i k hi hk kept ∙ put e is i k hk below)
    r hr

-- bytes of a slice
pub are_bytes : (xs : List ℕ) → ((i : ℕ) → Fits w8 (get_or xs i 0)) → AreBytes xs
are_bytes xs fits i = omega (arith, fits i)
