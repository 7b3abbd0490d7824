-- The strips that are made are those of the extended matrix.
use Rattle.wal_matrix.proofs.Common.{◌≡◌, ℕ, ◌+◌, ◌-◌, ◌*◌, ◌/◌, ◌%◌, ◌<◌, ◌≤◌, List, length, take, drop, get_or, sym, ap, subst, ◌∙◌, arith, ⊎_elim, length-take, length-drop, mul_comm, cases_lt, ext_get_or, get_or-take, get_or-drop, IsCodeword, IsCodeword-same, word_at, region, word_at-take, word_at-drop, shard_count, row_count, column_count, symbol_size, symbol, padded, IsMatrixOf, AreSources, IsRowStrip, AreRowStrips}
use borrow.Rule.Slice.PartMut.{put_mid}
use Rattle.wal_matrix.specs.Strips.{IsMatrixStrip}
use Rattle.wal_matrix.proofs.Codewords.{AreBytes, bytes_of_part}
use Rattle.wal_matrix.proofs.FrontLaws.{bytes_of_symbol}
use Rattle.wal_matrix.proofs.MatrixLaws.{bytes_within, same_runs}
use Rattle.wal_matrix.proofs.Places.{run_fits}
use Rattle.wal_matrix.proofs.RowLaws.{block_byte}
use Rattle.wal_matrix.proofs.Runs.{region_long, run_kept, region-put_other, region-put_same}
use Rattle.wal_matrix.proofs.Symbols.{symbol_long, row_symbol}
use Rattle.wal_matrix.proofs.TurnedLaws.{symbol_kept, column_codeword}

-- the room of a strip, row by row
pub room_by_rows : (f g long : ℕ) (strip : List ℕ) → f ≡ g → length strip ≡ shard_count g * shard_count g * long
    → length strip ≡ shard_count f * (shard_count f * long)
room_by_rows f g long strip same room = room ∙ ap (λ (k : ℕ). shard_count k * shard_count k * long) (sym same) ∙ omega arith

-- the next of runs of one length
pub part_long : (i long : ℕ) (xs : List ℕ) → i * long + long ≤ length xs → length (take ((i + 1) * long - i * long) (drop (i * long) xs)) ≡ long
part_long i long xs room = omega (arith, length-take ((i + 1) * long - i * long) (drop (i * long) xs), length-drop (i * long) xs)

-- the strip of one more source symbol is put
pub sources_more : (f s row from long column m : ℕ) (bytes old part : List ℕ) → column * long + long ≤ length old → length part ≡ long
    → ((k : ℕ) → k < long → get_or part k 0 ≡ get_or bytes ((row * column_count f + column) * s + from + k) 0)
    → AreSources f s bytes row from long column old → AreSources f s bytes row from long (column + 1) (put_mid (column * long) m old part)
sources_more f s row from long column m bytes old part room size own before =
    λ c k hc hk.
    let at : column * long ≡ long * column = omega arith in
    ⊎_elim
    (λ less. rw (region-put_other long c column (column * long) m old part less at (omega arith)) (before c k less hk))
    (λ more.
    let same : column ≡ c = omega arith in
    rw (← same, region-put_same long column (column * long) m old part at (omega arith) size) (own k hk))
    (cases_lt c column)

-- codewords of symbols are codewords of their strips
strip_codeword : (known n s from long : ℕ) (cells : ℕ → List ℕ) → from % 2 ≡ 0 → long % 2 ≡ 0 → from + long ≤ s
    → ((w : ℕ) → 2 * w < s → IsCodeword known n (λ i. word_at (cells i) w))
    → (w : ℕ) → 2 * w < long → IsCodeword known n (λ i. word_at (take long (drop from (cells i))) w)
strip_codeword known n s from long cells even_from even within codewords w low =
    let half : from ≡ 2 * (from / 2) = omega arith in
    IsCodeword-same known n (λ i. word_at (cells i) (from / 2 + w)) (λ i. word_at (take long (drop from (cells i))) w)
    (λ i _.
    word_at-take long (drop from (cells i)) w (omega arith) ∙ ap (λ (k : ℕ). word_at (drop k (cells i)) w) half
    ∙ word_at-drop (from / 2) (cells i) w)
    (codewords (from / 2 + w) (omega arith))

-- a strip within a list has its bytes
pub strip_long : (from long : ℕ) (xs : List ℕ) → from + long ≤ length xs → length (take long (drop from xs)) ≡ long
strip_long from long xs h = omega (arith, length-take long (drop from xs), length-drop from xs)

-- a run with the blob's bytes is the strip of a source symbol
source_strip : (f s : ℕ) (bytes e part : List ℕ) (r c from long : ℕ) → IsMatrixOf f s (padded f bytes) e
    → r < row_count f → c < column_count f → from + long ≤ s → length part ≡ long
    → length (symbol (shard_count f) s e r c) ≡ s
    → ((k : ℕ) → k < long → get_or part k 0 ≡ get_or bytes ((r * column_count f + c) * s + from + k) 0)
    → part ≡ take long (drop from (symbol (shard_count f) s e r c))
source_strip f s bytes e part r c from long matrix hr hc within part_long whole same =
    let piece = symbol (shard_count f) s e r c in
    let right = strip_long from long piece (omega (arith, whole)) in
    ext_get_or 0 part (take long (drop from piece)) (part_long ∙ sym right)
    (λ k h.
    let inside : k < long = omega arith in
    let number : (r * column_count f + c) * s + from + k ≡ (r * column_count f + c) * s + (from + k) = omega arith in
    let taken = get_or-take long (drop from piece) k 0 inside in
    let byte = block_byte f s bytes r c (from + k) (omega arith) in
    cc (same k inside, number, taken, get_or-drop from piece k 0, matrix.source r c hr hc, byte))

-- a row of strips that was extended from those of its source symbols
pub row_strip : (f long : ℕ) (old new : List ℕ) → f ≤ 333 → long % 2 ≡ 0 → length new ≡ shard_count f * long → AreBytes new
    → take (column_count f * long) new ≡ take (column_count f * long) old
    → ((w : ℕ) → 2 * w < long → IsCodeword (column_count f) (shard_count f) (λ i. word_at (region long new i) w))
    → (bytes : List ℕ) (s row from : ℕ) → s ≡ symbol_size f (length bytes) → row < row_count f → from % 2 ≡ 0 → from + long ≤ s
    → AreSources f s bytes row from long (column_count f) old → IsRowStrip f s bytes row from long new
row_strip f long old new few even size bytes_new kept codewords bytes s row from is_size hr even_from within sources =
    λ e is.
    let n = shard_count f in
    let m = column_count f in
    let matrix : IsMatrixOf f s (padded f bytes) e = subst (λ (z : ℕ). IsMatrixOf f z (padded f bytes) e) (sym is_size) is in
    let deep : row < n = omega arith in
    let whole : (j : ℕ) → j < n → length (symbol n s e row j) ≡ s = λ j hj. symbol_long n s e n row j (omega (arith, matrix.coded.size)) deep hj in
    let piece : (j : ℕ) → j < n → length (region long new j) ≡ long = λ j hj. region_long long j new (omega (arith, run_fits j n long hj)) in
    same_runs m n long (λ j. region long new j) (λ j. take long (drop from (symbol n s e row j))) (omega arith)
    (omega arith) even piece (λ j hj. strip_long from long (symbol n s e row j) (omega (arith, whole j hj)))
    (λ j. bytes_of_part long (long * j) new bytes_new)
    (λ j. bytes_of_part long from (symbol n s e row j) (bytes_of_symbol n s e row j (bytes_within e matrix.coded.fits)))
    codewords (strip_codeword m n s from long (λ j. symbol n s e row j) even_from even within
    (λ w low. matrix.coded.rows row w deep low))
    (λ j hj.
    source_strip f s bytes e (region long new j) row j from long matrix hr hj within (piece j (omega arith))
    (whole j (omega arith))
    (λ k hk.
    ap (λ (ys : List ℕ). get_or ys k 0) (run_kept long (long * j) (m * long) new old
    (omega (arith, run_fits j m long hj)) kept)
    ∙ sources j k hj hk))

-- the strips of one more row are put
pub row_strips_more : (f s from long row at m : ℕ) (bytes old part : List ℕ) → at ≡ row * (shard_count f * long)
    → at + shard_count f * long ≤ length old → length part ≡ shard_count f * long
    → IsRowStrip f s bytes row from long part
    → AreRowStrips f s bytes row from long old → AreRowStrips f s bytes (row + 1) from long (put_mid at m old part)
row_strips_more f s from long row at m bytes old part is_at room size own before =
    λ e is r c hr hc.
    let n = shard_count f in
    let place : at ≡ n * long * row = omega arith in
    let new = put_mid at m old part in
    row_symbol n long new r c hc
    ∙ ⊎_elim
    (λ less.
    rw (region-put_other (n * long) r row at m old part less place (omega arith)) (sym (row_symbol n long old r c hc) ∙ before e is r c less hc))
    (λ more.
    let same : row ≡ r = omega arith in
    rw (← same, region-put_same (n * long) row at m old part place (omega arith) size, mul_comm c long) (own e is c hc))
    (cases_lt r row)

-- strips of the first rows that were extended to all rows
pub strip_extended : (f long : ℕ) (old new : List ℕ) → f ≤ 333 → long % 2 ≡ 0 → length new ≡ shard_count f * (shard_count f * long) → AreBytes new
    → take (row_count f * (shard_count f * long)) new ≡ take (row_count f * (shard_count f * long)) old
    → ((w : ℕ) → 2 * w < shard_count f * long
    → IsCodeword (row_count f) (shard_count f) (λ i. word_at (region (shard_count f * long) new i) w))
    → (bytes : List ℕ) (s from : ℕ) → s ≡ symbol_size f (length bytes) → from % 2 ≡ 0 → from + long ≤ s
    → AreRowStrips f s bytes (row_count f) from long old → IsMatrixStrip f s bytes from long new
strip_extended f long old new few even size bytes_new kept codewords bytes s from is_size even_from within rows =
    λ e is r c hr hc.
    let n = shard_count f in
    let first = row_count f in
    let matrix : IsMatrixOf f s (padded f bytes) e = subst (λ (z : ℕ). IsMatrixOf f z (padded f bytes) e) (sym is_size) is in
    same_runs first n long (λ i. symbol n long new i c) (λ i. take long (drop from (symbol n s e i c))) (omega arith)
    (omega arith) even (λ i hi. symbol_long n long new n i c (omega (arith, size)) hi hc)
    (λ i hi. strip_long from long (symbol n s e i c)
    (omega (arith, symbol_long n s e n i c (omega (arith, matrix.coded.size)) hi hc)))
    (λ i. bytes_of_symbol n long new i c bytes_new)
    (λ i. bytes_of_part long from (symbol n s e i c) (bytes_of_symbol n s e i c (bytes_within e matrix.coded.fits)))
    (λ w low. column_codeword first n n long new even codewords c w hc low)
    (strip_codeword first n s from long (λ i. symbol n s e i c) even_from even within
    (λ w low. matrix.coded.columns c w hc low))
    (λ i hi. symbol_kept first n long new old i c hi hc kept ∙ rows e is i c hi hc)
    r hr
