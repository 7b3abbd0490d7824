-- A block that is made of columns, and the columns of a source block.
use Rattle.wal_matrix.proofs.Common.{◌≡◌, ℕ, ◌+◌, ◌-◌, ◌*◌, ◌<◌, ◌≤◌, List, ◌++◌, zero, suc, add-one, length, take, drop, replicate, refl, sym, ap, subst, ◌∙◌, arith, length-append, flat_map, range_with_len, length-replicate, replicate-append-replicate, drop-replicate, drop_at, take_at, take_all, drop-append-add, region, shard_count, row_count, column_count, symbol_size, symbol, column_part, secondary_of, padded, IsExtended, row_of_columns, block_of_columns, mul_comm}
use borrow.Rule.Slice.PartMut.{put_mid}
use Rattle.wal_matrix.proofs.Places.{run_fits}
use Rattle.wal_matrix.proofs.Runs.{pieces_more, pieces_front, length-pieces, piece_at, run_in_front, region_long}
use Rattle.wal_matrix.proofs.Symbols.{column_symbol, row_symbol}
use Rattle.wal_matrix.proofs.Slivers.{column_part_long}

-- pieces that are the same below n
same_pieces : (a b : ℕ → List ℕ) (n : ℕ) → ((i : ℕ) → i < n → a i ≡ b i) → flat_map a (range_with_len 0 n) ≡ flat_map b (range_with_len 0 n)
same_pieces a b zero same = refl
same_pieces a b (suc n) same =
    let P : ℕ → Type 0 = λ k. flat_map a (range_with_len 0 k) ≡ flat_map b (range_with_len 0 k) in
    subst P (add-one n)
    (cc (pieces_more a n, pieces_more b n, same_pieces a b n (λ i h. same i (omega arith)), same n (omega arith)))

-- a secondary sliver that crosses the source block of a blob is its column
pub secondary_of_blob : (f : ℕ) (bytes e : List ℕ) → IsExtended f bytes e → (j : ℕ) → j < column_count f
    → secondary_of f (symbol_size f (length bytes)) e j ≡ column_part (column_count f) (symbol_size f (length bytes)) (padded f bytes) (row_count f) j
unfolding secondary_of column_part
secondary_of_blob f bytes e extended j h =
    let s = symbol_size f (length bytes) in
    same_pieces (λ r. symbol (shard_count f) s e r j) (λ r. symbol (column_count f) s (padded f bytes) r j) (row_count f)
    (λ r hr. extended.source r j hr h)

-- what a block holds to which one more row was added
pub row_added : (rows width s place k : ℕ) (old columns laid piece : List ℕ) (given r : ℕ) → given ≤ width → place ≡ length old → k ≡ given * s
    → laid ≡ old ++ replicate (width * s) 0 → piece ≡ column_part rows s columns given r
    → put_mid place k laid piece ≡ old ++ row_of_columns rows width s columns given r
unfolding row_of_columns
row_added rows width s place k old columns laid piece given r fewer at is filled own =
    let zeros : List ℕ = replicate (width * s) 0 in
    let split : (width - given) + given ≡ width = omega arith in
    let both : (width - given) * s + given * s ≡ width * s = omega (arith, ap (λ (n : ℕ). n * s) split) in
    let left : width * s - k ≡ (width - given) * s = omega arith in
    let kept = take_at old zeros place (sym at) in
    cc (filled, kept, drop_at old zeros place (sym at), drop-replicate {X = ℕ} k (width * s) 0, left, own)

-- a piece of zeros is zeros
abbrev zeros_of : ℕ → List ℕ
zeros_of n = replicate n 0

zeros_piece : (s n i : ℕ) → i < n → take s (drop (i * s) (zeros_of (n * s))) ≡ zeros_of s
zeros_piece s n i h =
    let more = n * s - i * s - s in
    let left : n * s - i * s ≡ s + more = omega (arith, run_fits i n s h) in
    let front = take_at (zeros_of s) (zeros_of more) s (length-replicate s 0) in
    cc (drop-replicate {X = ℕ} (i * s) (n * s) 0, left, replicate-append-replicate {A = ℕ} s more 0, front)

module _ (f s : ℕ) (columns : List ℕ) (given : ℕ) (fewer : given ≤ column_count f) where
  abbrev row : ℕ → List ℕ
  row = row_of_columns (row_count f) (column_count f) s columns given

  module _ (room : given * row_count f * s ≤ length columns) where
    -- a row has its bytes
    row_bytes : (r : ℕ) → r < row_count f → length (row r) ≡ column_count f * s
    unfolding row_of_columns
    row_bytes r hr =
        let split : (column_count f - given) + given ≡ column_count f = omega arith in
        rw (length-append, column_part_long (row_count f) s columns given r room hr, length-replicate)
        (omega (arith, ap (λ (n : ℕ). n * s) split))

    -- what a row of the block is
    row_of_block : (r : ℕ) → r < row_count f → region (column_count f * s) (block_of_columns f s columns given) r ≡ row r
    unfolding block_of_columns
    row_of_block r hr =
        ap (λ (k : ℕ). take (column_count f * s) (drop k (flat_map row (range_with_len 0 (row_count f))))) (mul_comm (column_count f * s) r)
        ∙ piece_at row (column_count f * s) (row_count f) r row_bytes hr

    -- the block has its bytes
    pub block_long : length (block_of_columns f s columns given) ≡ row_count f * column_count f * s
    unfolding block_of_columns
    block_long = length-pieces row (column_count f * s) (row_count f) row_bytes ∙ omega arith

    -- there is room for one more row
    pub rows_fit : (block : List ℕ) (r : ℕ) → r < row_count f → block ≡ flat_map row (range_with_len 0 r)
        → length block + column_count f * s ≤ row_count f * column_count f * s
    rows_fit block r h is =
        let long = ap length is ∙ length-pieces row (column_count f * s) r (λ k b. row_bytes k (omega arith)) in
        omega (arith, run_fits r (row_count f) (column_count f * s) h)

    -- symbol (r, c) of the block is symbol r of column c
    pub block_symbol : (r c : ℕ) → r < row_count f → c < given
        → symbol (column_count f) s (block_of_columns f s columns given) r c ≡ region s (region (row_count f * s) columns c) r
    unfolding row_of_columns
    block_symbol r c hr hc =
        let part = column_part (row_count f) s columns given r in
        let long = column_part_long (row_count f) s columns given r room hr in
        row_symbol (column_count f) s (block_of_columns f s columns given) r c (omega arith)
        ∙ ap (λ (xs : List ℕ). take s (drop (c * s) xs)) (row_of_block r hr)
        ∙ run_in_front (c * s) s part (replicate ((column_count f - given) * s) 0) (omega (arith, run_fits c given s hc))
        ∙ column_symbol (row_count f) s columns given c r room hc hr
        ∙ row_symbol (row_count f) s columns c r hr
        ∙ ap (λ (k : ℕ). take s (drop k (region (row_count f * s) columns c))) (mul_comm r s)

    -- the rest of a row
    row_rest : (r c : ℕ) → r < row_count f → given ≤ c → c < column_count f → take s (drop (c * s) (row r)) ≡ replicate s 0
    unfolding row_of_columns
    row_rest r c hr hc inside =
        let part = column_part (row_count f) s columns given r in
        let over = (c - given) * s in
        let split : (c - given) + given ≡ c = omega arith in
        let both : over + given * s ≡ c * s = omega (arith, ap (λ (n : ℕ). n * s) split) in
        let place : c * s ≡ length part + over = omega (arith, column_part_long (row_count f) s columns given r room hr) in
        let zeros = zeros_piece s (column_count f - given) (c - given) (omega arith) in
        cc (place, drop-append-add part (replicate ((column_count f - given) * s) 0) over, zeros)

  -- column c of the block is the one that was given
  pub block_column : length columns ≡ given * (row_count f * s) → (c : ℕ) → c < given
      → column_part (column_count f) s (block_of_columns f s columns given) (row_count f) c ≡ region (row_count f * s) columns c
  unfolding column_part
  block_column long c hc =
      let own = region (row_count f * s) columns c in
      let bytes = region_long (row_count f * s) c columns (omega (arith, run_fits c given (row_count f * s) hc)) in
      pieces_front (λ r. symbol (column_count f) s (block_of_columns f s columns given) r c) s own (row_count f)
      (λ r hr. block_symbol (omega arith) r c hr hc ∙ ap (λ (k : ℕ). take s (drop k own)) (mul_comm s r))
      ∙ take_all (row_count f * s) own (omega (arith, bytes))

  -- and zeros where none was given
  pub block_rest : length columns ≡ given * (row_count f * s) → (c : ℕ) → given ≤ c → c < column_count f
      → column_part (column_count f) s (block_of_columns f s columns given) (row_count f) c ≡ replicate (row_count f * s) 0
  unfolding column_part
  block_rest long c hc inside =
      pieces_front (λ r. symbol (column_count f) s (block_of_columns f s columns given) r c) s (zeros_of (row_count f * s)) (row_count f)
      (λ r hr.
      row_symbol (column_count f) s (block_of_columns f s columns given) r c inside
      ∙ ap (λ (xs : List ℕ). take s (drop (c * s) xs)) (row_of_block (omega arith) r hr)
      ∙ row_rest (omega arith) r c hr hc inside
      ∙ sym (zeros_piece s (row_count f) r hr))
      ∙ take_all (row_count f * s) (zeros_of (row_count f * s)) (omega (arith, length-replicate {A = ℕ} (row_count f * s) 0))
