-- The roots of a matrix whose columns come one after the other.
use Rattle.wal_commit.proofs.Common.{◌≡◌, ℕ, ◌+◌, ◌*◌, ◌/◌, ◌<◌, ◌≤◌, List, [], ◌∷◌, ◌++◌, length, map, take, drop, sym, ap, ap₂, subst, ◌∙◌, arith, range_with_len, mul_comm, mul-div_left, mul-add-lt, ext_get_or, get_or-map-range_with_len, length-map-range_with_len, map-range_with_len_more, AreDigests, StacksState, StandsFor, entry_of, row_stack, empty_entry, leaf, leaves, pieces, root_of, root_over, get_or-leaves, length-leaves, length-root_over, Secondary, BlobShape, shard_count, symbol_size, BlobMetadata, held_index, column_of, column_part, row_of, symbol, extended_unique, length-pieces, piece_at, column_long, column_part_long, column_part-symbol, row_long, row_of-symbol, Format, IsMetadataOf, metadata_over, pair_over, AreLeaves, AreSeen, HasColumns, row_leaves}
use Rattle.wal_matrix.proofs.Symbols.{column_symbol}
use Rattle.wal_commit.proofs.Commitments.{flat_map-more}
use Rattle.wal_commit.proofs.LeafTables.{column_of-symbol, root_of-digests}

-- the leaves of a row whose columns have all come have the root over the row
pub row_root_is : (digest : List ℕ → List ℕ) (n s : ℕ) (e : List ℕ) (r : ℕ) → 0 < s → length e ≡ n * n * s → r < n
    → root_of digest (row_leaves digest n s e r n) ≡ root_over digest s (row_of n s e r)
row_root_is digest n s e r some long h =
    let f : ℕ → List ℕ = λ c. leaf digest (symbol n s e r c) in
    let row = row_of n s e r in
    let count = length-leaves digest n s row in
    let number : length row / s ≡ n = ap (λ (k : ℕ). k / s) (row_long n s e r long h) ∙ mul-div_left n some in
    let whole : leaves digest n s row ≡ row_leaves digest n s e r n =
    ext_get_or empty_entry (leaves digest n s row) (map f (range_with_len 0 n)) (count ∙ sym (length-map-range_with_len f 0 n))
    (λ k l.
    let within : k < n = omega (arith, count) in
    get_or-leaves digest n s k row within
    ∙ ap (λ (z : ℕ). leaf digest (take s (drop z row))) (mul_comm k s)
    ∙ ap (leaf digest) (row_of-symbol n s e r k within)
    ∙ sym (get_or-map-range_with_len f 0 n k k empty_entry within (omega arith))) in
    ap (root_of digest) (sym whole) ∙ ap (λ (k : ℕ). root_of digest (leaves digest k s row)) (sym number)

-- no column has come
pub seen_none : (digest : List ℕ → List ℕ) (n s : ℕ) (e : List ℕ) (trees : StacksState) (roots : List ℕ)
    → ((r : ℕ) → StandsFor digest (row_stack r trees.levels) []) → roots ≡ [] → AreSeen digest n s e 0 trees roots
seen_none digest n s e trees roots empty none = record { rows = λ r h. empty r; columns = none }

-- one more column of a block of leaf digests
pub seen_more : (digest : List ℕ → List ℕ) (n s : ℕ) (e : List ℕ) (first width place : ℕ) (digests column : List ℕ) (old new : StacksState) (roots more root : List ℕ)
    → 0 < s → length e ≡ n * n * s → first + width ≤ n → place < width → length digests ≡ n * width * 32
    → column ≡ column_part width 32 digests n place
    → root ≡ root_of digest (pieces (length column / 32) 32 column) → more ≡ roots ++ root
    → ((r : ℕ) (entries : List (List ℕ)) → r < old.rows → StandsFor digest (row_stack r old.levels) entries
    → StandsFor digest (row_stack r new.levels) (entries ++ entry_of r column ∷ []))
    → old.rows ≡ n → AreLeaves digest n s e first width digests
    → AreSeen digest n s e (first + place) old roots → AreSeen digest n s e (first + (place + 1)) new more
seen_more digest n s e first width place digests column old new roots more root some long fits here whole is rooted appended pushed rows are before =
    let j = first + place in
    let inside : j < n = omega arith in
    let next : j + 1 ≡ first + (place + 1) = omega arith in
    let room : n * width * 32 ≤ length digests = omega (arith, whole) in
    let column_bytes : length column ≡ n * 32 = ap length is ∙ column_part_long width 32 digests n place room here in
    let own : (r : ℕ) → r < n → entry_of r column ≡ leaf digest (symbol n s e r j) =
    λ r h. ap (λ (ys : List ℕ). take 32 (drop (r * 32) ys)) is ∙ column_symbol width 32 digests n r place room h here ∙ are r place h here in
    let last : root ≡ root_over digest s (column_of n s e j) =
    rooted
    ∙ root_of-digests digest n s column (column_of n s e j) some column_bytes (column_long n s e j long inside)
    (λ k h.
    ap (λ (ys : List ℕ). take 32 (drop (32 * k) ys)) is
    ∙ column_part-symbol width 32 digests n k place room h here
    ∙ are k place h here
    ∙ ap (leaf digest) (sym (column_of-symbol n s e k j long h inside))) in
    subst (λ (z : ℕ). AreSeen digest n s e z new more) next
    (record {
      rows = λ r h.
          let f : ℕ → List ℕ = λ c. leaf digest (symbol n s e r c) in
          let one_more : row_leaves digest n s e r j ++ entry_of r column ∷ [] ≡ row_leaves digest n s e r (j + 1) =
          ap (λ (d : List ℕ). row_leaves digest n s e r j ++ d ∷ []) (own r h) ∙ sym (map-range_with_len_more f 0 j j (omega arith)) in
          subst (StandsFor digest (row_stack r new.levels)) one_more (pushed r (row_leaves digest n s e r j) (omega (arith, rows)) (before.rows r h));
      columns = appended ∙ ap₂ (λ (a b : List ℕ). a ++ b) before.columns last ∙ sym (flat_map-more (λ (c : ℕ). root_over digest s (column_of n s e c)) j);
    })

-- the digests of the symbols of a block of columns
pub block_leaves : (digest : List ℕ → List ℕ) (n width s : ℕ) (block digests : List ℕ) → 0 < s → length block ≡ n * width * s
    → AreDigests digest 0 s block (length block / s) digests
    → (e : List ℕ) (first : ℕ) → HasColumns n s e first width block → AreLeaves digest n s e first width digests
unfolding symbol
block_leaves digest n width s block digests some whole are e first has =
    λ r k hr hk.
    let number : length block / s ≡ n * width = ap (λ (z : ℕ). z / s) whole ∙ mul-div_left (n * width) some in
    are.each (r * width + k) (let inside = mul-add-lt r width k n hr hk in omega (arith, number, mul_comm n width))
    ∙ ap (leaf digest) (has r k hr hk)

-- the roots that are appended for a shard
pub pair_is : (digest : List ℕ → List ℕ) → ((text : List ℕ) → length (digest text) ≡ 32) → (shape : BlobShape) (e : List ℕ) (trees : StacksState) (roots row column : List ℕ) (shard held : ℕ)
    → 0 < symbol_size shape.f shape.length
    → length e ≡ shard_count shape.f * shard_count shape.f * symbol_size shape.f shape.length → shard < shard_count shape.f → held < shard_count shape.f
    → held ≡ held_index shape.format shape.f Secondary shard
    → ((entries : List (List ℕ)) → StandsFor digest (row_stack shard trees.levels) entries → row ≡ root_of digest entries)
    → column ≡ take 32 (drop (held * 32) roots)
    → AreSeen digest (shard_count shape.f) (symbol_size shape.f shape.length) e (shard_count shape.f) trees roots
    → row ++ column ≡ pair_over digest shape e shard
pair_is digest size shape e trees roots row column shard held some long h below at root part seen =
    let n = shard_count shape.f in
    let s = symbol_size shape.f shape.length in
    let f : ℕ → List ℕ = λ c. root_over digest s (column_of n s e c) in
    ap₂ (λ (a b : List ℕ). a ++ b)
    (root (row_leaves digest n s e shard n) (seen.rows shard h) ∙ row_root_is digest n s e shard some long h)
    (part ∙ ap (λ (ys : List ℕ). take 32 (drop (held * 32) ys)) seen.columns
    ∙ piece_at f 32 n held (λ k b. length-root_over digest size s (column_of n s e k)) below ∙ ap f at)

-- the roots of all columns have their bytes
pub roots_long : (digest : List ℕ → List ℕ) → ((text : List ℕ) → length (digest text) ≡ 32) → (n s : ℕ) (e : List ℕ) (trees : StacksState) (roots : List ℕ)
    → AreSeen digest n s e n trees roots → length roots ≡ n * 32
roots_long digest size n s e trees roots seen =
    let f : ℕ → List ℕ = λ c. root_over digest s (column_of n s e c) in
    ap length seen.columns ∙ length-pieces f 32 n (λ k b. length-root_over digest size s (column_of n s e k))

-- bytes have one metadata
pub one_metadata : (digest : List ℕ → List ℕ) (format : Format) (f : ℕ) (bytes : List ℕ) (a b : BlobMetadata) → IsMetadataOf digest format f bytes a → IsMetadataOf digest format f bytes b → a ≡ b
one_metadata digest format f bytes a b is_a is_b =
    is_a.2
    ∙ ap (metadata_over digest (record { format = format; f = f; length = length bytes })) (extended_unique f bytes is_a.0 is_b.0 is_a.3.1 is_a.1 is_b.1)
    ∙ sym is_b.2
