-- Rows that are laid into a matrix and extended there.
use Rattle.wal_matrix.proofs.Common.{◌≡◌, ℕ, ◌+◌, ◌-◌, ◌*◌, ◌%◌, ◌<◌, ◌≤◌, min, List, ◌++◌, length, take, drop, replicate, get_or, refl, sym, ap, subst, ◌∙◌, arith, ⊎_elim, below_more, length-append, length-take, length-drop, cases_lt, append_assoc, ext_get_or, get_or_append_left, get_or-append_right, get_or-append-add, get_or_past, get_or-take, get_or-drop, length-replicate, take_all, take_at, take-take, IsCodeword, IsCodeword-same, every_row_first, word_at, region, region-byte, shard_count, row_count, column_count, symbol_size, symbol, padded, IsMatrixOf, laid_row, IsRowFrom}
use Rattle.wal_kernel.proofs.Words.{zero_byte}
use Rattle.wal_matrix.proofs.Codewords.{AreBytes}
use Rattle.wal_matrix.proofs.Places.{run_fits, part_fits}
use Rattle.wal_matrix.proofs.Runs.{region_long, run_of_front}
use Rattle.wal_matrix.proofs.Symbols.{symbol_is, symbol_long, joined-symbol}
use Rattle.wal_matrix.proofs.PaddedLaws.{padded_long}
use Rattle.wal_matrix.proofs.TurnedLaws.{column_codeword}

-- zeros after a list are what is read past its end
pub zeros_after : (xs : List ℕ) (m k : ℕ) → get_or (xs ++ replicate m 0) k 0 ≡ get_or xs k 0
zeros_after xs m k =
    ⊎_elim (get_or_append_left xs (replicate m 0) 0 k)
    (λ past.
    let zero_there = get_or-append_right xs (replicate m 0) (length xs) k 0 refl past in
    cc (zero_there, zero_byte m (k - length xs), get_or_past xs k 0 past)) (cases_lt k (length xs))

-- a byte of the part of a laid row that the blob gives
laid_byte : (start width run : ℕ) (bytes : List ℕ) (k : ℕ) → k < width → get_or (laid_row start width run bytes) k 0 ≡ get_or bytes (start + k) 0
unfolding laid_row
laid_byte start width run bytes k h =
    let part = take width (drop start bytes) in
    zeros_after part (run - length part) k ∙ get_or-take width (drop start bytes) k 0 h ∙ get_or-drop start bytes k 0

-- a part that is cut where the list ends
cut_part : (start width from to : ℕ) (bytes : List ℕ) → from ≡ min start (length bytes) → to ≡ min (start + width) (length bytes)
    → take (to - from) (drop from bytes) ≡ take width (drop start bytes)
cut_part start width from to bytes is_from is_to =
    let cut = take (to - from) (drop from bytes) in
    let cut_long = length-take (to - from) (drop from bytes) in
    let rest_long = length-drop from bytes in
    let wide_long = length-take width (drop start bytes) in
    let after_long = length-drop start bytes in
    ext_get_or 0 cut (take width (drop start bytes)) (omega arith)
    (λ i h.
    let same : from + i ≡ start + i = omega arith in
    let cut_byte = get_or-take (to - from) (drop from bytes) i 0 (omega arith) in
    let wide_byte = get_or-take width (drop start bytes) i 0 (omega arith) in
    cc (cut_byte, get_or-drop from bytes i 0, same, wide_byte, get_or-drop start bytes i 0))

-- a part of the blob is appended, and zeros to the end of the row
pub laid_after : (start width run from to place count : ℕ) (bytes old held after : List ℕ)
    → from ≡ min start (length bytes)
    → to ≡ min (start + width) (length bytes) → width ≤ run → held ≡ old ++ take (to - from) (drop from bytes)
    → place ≡ length old → count ≡ length held → after ≡ take (place + run) held ++ replicate (place + run - count) 0
    → after ≡ old ++ laid_row start width run bytes
unfolding laid_row
laid_after start width run from to place count bytes old held after is_from is_to room appended at whole filled =
    let part = take width (drop start bytes) in
    let own : held ≡ old ++ part = cc (appended, cut_part start width from to bytes is_from is_to) in
    let long : length held ≡ length old + length part = ap length own ∙ length-append old part in
    let few = length-take width (drop start bytes) in
    let rest : place + run - count ≡ run - length part = omega arith in
    let all = take_all (place + run) held (omega arith) in
    cc (filled, all, own, rest, append_assoc old part (replicate (run - length part) 0))

-- it has all bytes of the row
pub laid_long : (start known total size place : ℕ) (bytes old laid : List ℕ) → known ≤ total → place ≡ length old
    → laid ≡ old ++ laid_row start (known * size) (total * size) bytes → length laid ≡ place + total * size
unfolding laid_row
laid_long start known total size place bytes old laid fewer at is =
    omega (arith, part_fits known total size fewer, simp (length-append, length-replicate, length-take) at (ap length is))

-- the row that was laid last is extended
pub row_from : (known total size place start : ℕ) (bytes old laid new : List ℕ) → length old ≡ place
    → laid ≡ old ++ laid_row start (known * size) (total * size) bytes
    → take (place + known * size) new ≡ take (place + known * size) laid
    → ((w : ℕ) → 2 * w < size → IsCodeword known total (λ c. word_at (region size (drop place new) c) w))
    → IsRowFrom known total size bytes start (drop place new)
row_from known total size place start bytes old laid new long is kept codewords = record {
  begins = λ k h.
      let end = place + known * size in
      let near : place + k < end = omega arith in
      let number : place + k ≡ length old + k = omega arith in
      cc (
        get_or-drop place new k 0,
        get_or-take end new (place + k) 0 near,
        get_or-take end laid (place + k) 0 near,
        get_or-append-add old (laid_row start (known * size) (total * size) bytes) k 0,
        laid_byte start (known * size) (total * size) bytes k h,
      );
  codeword = codewords;
}

-- what stood before it stays
pub rows_kept : (place more : ℕ) (old row laid new : List ℕ) → length old ≡ place → laid ≡ old ++ row → take (place + more) new ≡ take (place + more) laid
    → take place new ≡ old
rows_kept place more old row laid new long is kept =
    let fewer : place ≤ place + more = omega arith in
    cc (take-take place (place + more) new fewer, take-take place (place + more) laid fewer, take_at old row place long)

-- one more row
pub rows_more : (known total size row n : ℕ) (bytes old new : List ℕ) → n ≡ row * (total * size) → take n new ≡ old → length new ≡ n + total * size
    → ((r : ℕ) → r < row → IsRowFrom known total size bytes (r * (known * size)) (region (total * size) old r))
    → IsRowFrom known total size bytes (row * (known * size)) (drop n new)
    → (r : ℕ) → r < row + 1 → IsRowFrom known total size bytes (r * (known * size)) (region (total * size) new r)
rows_more known total size row n bytes old new at kept long before own =
    let run = total * size in
    let start : n ≡ run * row = omega arith in
    let rest = length-drop n new in
    let last : drop n new ≡ region run new row = cc (take_all run (drop n new) (omega arith), start) in
    below_more _ _
    (λ r h.
    let front = run_of_front run (run * r) n new (omega (arith, run_fits r row run h)) in
    let same : region run old r ≡ region run new r = cc (kept, front) in
    rw same at (before r h)) (rw last at own)

-- a byte of a symbol of the source block is one of the blob
pub block_byte : (f s : ℕ) (bytes : List ℕ) (r c i : ℕ) → i < s
    → get_or (symbol (column_count f) s (padded f bytes) r c) i 0 ≡ get_or bytes ((r * column_count f + c) * s + i) 0
unfolding padded
block_byte f s bytes r c i inside =
    let k = column_count f in
    let block = padded f bytes in
    let number : s * (r * k + c) + i ≡ (r * k + c) * s + i = omega arith in
    let zeros = zeros_after bytes (row_count f * k * symbol_size f (length bytes) - length bytes) (s * (r * k + c) + i) in
    cc (symbol_is k s block r c, region-byte s block (r * k + c) i inside, zeros, number)

-- what has the bytes of the blob at its place is a symbol of the source block
pub block_symbol : (f s : ℕ) (bytes part : List ℕ) (r c : ℕ) → s ≡ symbol_size f (length bytes) → r < row_count f
    → c < column_count f
    → length part ≡ s → ((i : ℕ) → i < s → get_or part i 0 ≡ get_or bytes ((r * column_count f + c) * s + i) 0)
    → part ≡ symbol (column_count f) s (padded f bytes) r c
block_symbol f s bytes part r c size hr hc long same =
    let k = column_count f in
    let block = padded f bytes in
    let block_long : length block ≡ row_count f * k * s = padded_long f bytes ∙ ap (λ (z : ℕ). row_count f * k * z) (sym size) in
    ext_get_or 0 part (symbol k s block r c) (long ∙ sym (symbol_long k s block (row_count f) r c (omega arith) hr hc))
    (λ i h. let inside : i < s = omega arith in same i inside ∙ sym (block_byte f s bytes r c i inside))

-- a symbol of a row that begins with a part of the blob
pub row_source : (f s : ℕ) (bytes row : List ℕ) (r c : ℕ) → s ≡ symbol_size f (length bytes)
    → length row ≡ shard_count f * s → r < row_count f → c < column_count f
    → IsRowFrom (column_count f) (shard_count f) s bytes (r * (column_count f * s)) row
    → region s row c ≡ symbol (column_count f) s (padded f bytes) r c
row_source f s bytes row r c size long hr hc own =
    let k = column_count f in
    block_symbol f s bytes (region s row c) r c size hr hc
    (region_long s c row (omega (arith, run_fits c (shard_count f) s (omega arith))))
    (λ i hi.
    let within : s * c + i < k * s = omega (arith, run_fits c k s hc) in
    let number : r * (k * s) + (s * c + i) ≡ (r * k + c) * s + i = omega arith in
    region-byte s row c i hi ∙ own.begins (s * c + i) within ∙ ap (λ (j : ℕ). get_or bytes j 0) number)

-- rows that are laid and extended, and then whole rows, which the extension kept
pub extended_in_place : (f s count : ℕ) (bytes cells filled e : List ℕ) → f ≤ 333 → s % 2 ≡ 0
    → s ≡ symbol_size f (length bytes) → length e ≡ shard_count f * shard_count f * s → AreBytes e
    → count ≡ length cells → count ≡ row_count f * (shard_count f * s)
    → filled ≡ take (shard_count f * (shard_count f * s)) cells ++ replicate (shard_count f * (shard_count f * s) - count) 0
    → take (row_count f * (shard_count f * s)) e ≡ take (row_count f * (shard_count f * s)) filled
    → ((r : ℕ) → r < row_count f
    → IsRowFrom (column_count f) (shard_count f) s bytes (r * (column_count f * s)) (region (shard_count f * s) cells r))
    → ((w : ℕ) → 2 * w < shard_count f * s → IsCodeword (row_count f) (shard_count f) (λ r. word_at (region (shard_count f * s) e r) w))
    → IsMatrixOf f (symbol_size f (length bytes)) (padded f bytes) e
extended_in_place f s count bytes cells filled e few even size long bytes_e at laid_long is kept rows codewords =
    let n = shard_count f in
    let run = n * s in
    let end = row_count f * run in
    let zeros : List ℕ = replicate (n * run - count) 0 in
    let fits : length cells ≤ n * run = omega (arith, part_fits (row_count f) n run (omega arith)) in
    let whole = take_all (n * run) cells fits in
    let front : take end e ≡ cells = cc (kept, is, whole, take_at cells zeros end (omega arith)) in
    let own : (r : ℕ) → r < row_count f → IsRowFrom (column_count f) n s bytes (r * (column_count f * s)) (region run e r) =
    λ r hr.
    let there = run_of_front run (run * r) end e (omega (arith, run_fits r (row_count f) run hr)) in
    let same : region run cells r ≡ region run e r = cc (front, there) in
    rw same at (rows r hr) in
    let columns = column_codeword (row_count f) n n s e even codewords in
    subst (λ (z : ℕ). IsMatrixOf f z (padded f bytes) e) size
    (record {
      coded = record {
        size = long;
        fits = λ i _. bytes_e i;
        rows = λ r w hr hw.
            every_row_first (column_count f) (row_count f) n n (λ a b. word_at (symbol n s e a b) w) (omega arith) (omega arith) (omega arith)
            (λ a ha.
            IsCodeword-same (column_count f) n (λ b. word_at (region s (region run e a) b) w) (λ b. word_at (symbol n s e a b) w)
            (λ b hb. ap (λ (ys : List ℕ). word_at ys w) (sym (joined-symbol n s e a b hb))) ((own a ha).codeword w hw))
            (λ b hb. columns b w hb hw) r hr;
        columns = columns;
      };
      source = λ r c hr hc.
          sym (joined-symbol n s e r c (omega arith))
          ∙ row_source f s bytes (region run e r) r c size
          (region_long run r e (omega (arith, run_fits r n run (omega arith)))) hr hc (own r hr);
    })
