-- The codewords of slivers are the rows and columns of the matrix.
use Rattle.wal_matrix.proofs.Common.{◌≡◌, ℕ, ◌+◌, ◌-◌, ◌*◌, ◌%◌, ◌<◌, ◌≤◌, List, ◌++◌, zero, suc, add-one, length, refl, sym, ap, subst, ◌∙◌, arith, ⊎_elim, flat_map, range_with_len, cases_lt, get_or_append_left, get_or-append_right, IsCodeword-same, codeword_unique_first, word_at, region, Primary, Secondary, shard_count, row_count, column_count, sliver_symbols, crossing, symbol, row_of, primary_of, column_part, column_of, secondary_of, line_of, sliver_of, IsCodedMatrix, IsWordOf}
use Rattle.wal_shape.specs.declared.axis.Axis.{Axis}
use Rattle.wal_matrix.proofs.Codewords.{AreBytes, bytes_of_part}
use Rattle.wal_matrix.proofs.MatrixLaws.{bytes_within, same_by_words}
use Rattle.wal_matrix.proofs.Runs.{pieces_more, run_kept}
use Rattle.wal_matrix.proofs.Places.{run_fits}
use Rattle.wal_matrix.proofs.Slivers.{row_is, row_long, primary_is, primary_long, row_of-symbol, column_is, column_part-symbol, secondary-front, secondary_long, column_long}

-- the row of a matrix is the codeword of its primary sliver
pub row_is_word : (f s : ℕ) (e : List ℕ) (i : ℕ) → IsCodedMatrix f s e → i < shard_count f
    → IsWordOf Primary f s (primary_of f s e i) (row_of (shard_count f) s e i)
row_is_word f s e i matrix h =
    let n = shard_count f in
    record {
      coded = record {
        size = row_long n s e i matrix.size h;
        fits = λ k _. subst (λ (ys : List ℕ). AreBytes ys) (sym (row_is n s e i)) (bytes_of_part (n * s) (n * s * i) e (bytes_within e matrix.fits)) k;
        codeword = λ w hw.
            IsCodeword-same (column_count f) n (λ c. word_at (symbol n s e i c) w) (λ c. word_at (region s (row_of n s e i) c) w)
            (λ c hc. ap (λ (ys : List ℕ). word_at ys w) (row_of-symbol n s e i c hc)) (matrix.rows i w h hw);
      };
      begins = sym (primary_is f s e i);
    }

-- two lists of bytes joined
pub bytes_joined : (xs ys : List ℕ) → AreBytes xs → AreBytes ys → AreBytes (xs ++ ys)
bytes_joined xs ys bx by i =
    ⊎_elim
    (λ inside. subst (λ (v : ℕ). v < 256) (sym (get_or_append_left xs ys 0 i inside)) (bx i))
    (λ past. subst (λ (v : ℕ). v < 256) (sym (get_or-append_right xs ys (length xs) i 0 refl past)) (by (i - length xs)))
    (cases_lt i (length xs))

-- pieces of bytes
pub bytes_of_pieces : (piece : ℕ → List ℕ) (n : ℕ) → ((k : ℕ) → k < n → AreBytes (piece k))
    → AreBytes (flat_map piece (range_with_len 0 n))
bytes_of_pieces piece zero are = λ i. omega arith
bytes_of_pieces piece (suc n) are =
    let Q : ℕ → Type 0 = λ k. AreBytes (flat_map piece (range_with_len 0 k)) in
    subst Q (add-one n)
    (subst AreBytes (sym (pieces_more piece n))
    (bytes_joined (flat_map piece (range_with_len 0 n)) (piece n) (bytes_of_pieces piece n (λ k h. are k (omega arith)))
    (are n (omega arith))))

-- the symbols of a column are bytes
pub bytes_of_column : (n s : ℕ) (e : List ℕ) (rows c : ℕ) → AreBytes e → AreBytes (column_part n s e rows c)
unfolding column_part symbol
bytes_of_column n s e rows c bytes = bytes_of_pieces (λ r. symbol n s e r c) rows
    (λ r _. bytes_of_part s ((r * n + c) * s) e bytes)

-- the column of a matrix is the codeword of its secondary sliver
pub column_is_word : (f s : ℕ) (e : List ℕ) (j : ℕ) → IsCodedMatrix f s e → j < shard_count f
    → IsWordOf Secondary f s (secondary_of f s e j) (column_of (shard_count f) s e j)
column_is_word f s e j matrix h =
    let n = shard_count f in
    record {
      coded = record {
        size = column_long n s e j matrix.size h;
        fits = λ k _. rw column_is (bytes_of_column n s e n j (bytes_within e matrix.fits) k);
        codeword = λ w hw.
            IsCodeword-same (row_count f) n (λ r. word_at (symbol n s e r j) w) (λ r. word_at (region s (column_of n s e j) r) w)
            (λ r hr.
            ap (λ (ys : List ℕ). word_at (region s ys r) w) (column_is n s e j)
            ∙ ap (λ (ys : List ℕ). word_at ys w) (column_part-symbol n s e n r j (let m = matrix.size in omega arith) hr h))
            (matrix.columns j w h hw);
      };
      begins = sym (secondary-front f s e j matrix.size h);
    }

-- the line of a matrix is the codeword of its sliver
pub line_is_word : (axis : Axis) (f s : ℕ) (e : List ℕ) (i : ℕ) → IsCodedMatrix f s e → i < shard_count f
    → IsWordOf axis f s (sliver_of axis f s e i) (line_of axis f s e i)
line_is_word Primary f s e i matrix h = row_is_word f s e i matrix h
line_is_word Secondary f s e i matrix h = column_is_word f s e i matrix h

-- a sliver has its bytes
pub sliver_long : (axis : Axis) (f s : ℕ) (e : List ℕ) (i : ℕ) → length e ≡ shard_count f * shard_count f * s → i < shard_count f
    → length (sliver_of axis f s e i) ≡ sliver_symbols axis f * s
sliver_long Primary f s e i long h = primary_long f s e i long h
sliver_long Secondary f s e i long h = secondary_long f s e i long h

-- and a line has its own
pub line_long : (axis : Axis) (f s : ℕ) (e : List ℕ) (i : ℕ) → length e ≡ shard_count f * shard_count f * s → i < shard_count f
    → length (line_of axis f s e i) ≡ shard_count f * s
line_long Primary f s e i long h = row_long (shard_count f) s e i long h
line_long Secondary f s e i long h = column_long (shard_count f) s e i long h

-- the symbol of a row is that of the column at its place
row_crosses : (f s : ℕ) (e : List ℕ) (i j : ℕ) → length e ≡ shard_count f * shard_count f * s → i < shard_count f → j < shard_count f
    → region s (row_of (shard_count f) s e i) j ≡ region s (column_of (shard_count f) s e j) i
row_crosses f s e i j long hi hj =
    let n = shard_count f in
    row_of-symbol n s e i j hj
    ∙ sym (ap (λ (ys : List ℕ). region s ys i) (column_is n s e j) ∙ column_part-symbol n s e n i j (omega arith) hi hj)

-- symbol j of line i is symbol i of the crossing line j
pub lines_cross : (axis : Axis) (f s : ℕ) (e : List ℕ) (i j : ℕ) → length e ≡ shard_count f * shard_count f * s → i < shard_count f → j < shard_count f
    → region s (line_of axis f s e i) j ≡ region s (line_of (crossing axis) f s e j) i
lines_cross Primary f s e i j long hi hj = row_crosses f s e i j long hi hj
lines_cross Secondary f s e i j long hi hj = sym (row_crosses f s e j i long hj hi)

-- no sliver has more symbols than its codeword
pub symbols_fit : (axis : Axis) (f : ℕ) → sliver_symbols axis f ≤ shard_count f
symbols_fit Primary f = omega arith
symbols_fit Secondary f = omega arith

-- a sliver has one codeword
pub word_unique : (axis : Axis) (f s : ℕ) (sliver a b : List ℕ) → f ≤ 333 → s % 2 ≡ 0 → 0 < s
    → IsWordOf axis f s sliver a → IsWordOf axis f s sliver b → a ≡ b
word_unique axis f s sliver a b few even some ha hb =
    let k = sliver_symbols axis f in
    let n = shard_count f in
    same_by_words n s a b even some ha.coded.size hb.coded.size (bytes_within a ha.coded.fits)
    (bytes_within b hb.coded.fits)
    (λ i w hi hw.
    codeword_unique_first k n (λ j. word_at (region s a j) w) (λ j. word_at (region s b j) w) (symbols_fit axis f) (omega arith)
    (ha.coded.codeword w hw) (hb.coded.codeword w hw)
    (λ j hj.
    ap (λ (ys : List ℕ). word_at ys w) (run_kept s (s * j) (k * s) a b (omega (arith, run_fits j k s hj))
    (ha.begins ∙ sym hb.begins))) i hi)
