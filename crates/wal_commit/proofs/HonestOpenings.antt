-- The slivers and the openings that an honest writer hands out hold, and a held sliver has one codeword.
use Rattle.wal_commit.proofs.Common.{◌≡◌, ℕ, ◌*◌, ◌/◌, ◌<◌, ◌≤◌, List, length, map, slice_get, Some, option_map, refl, sym, ap, subst, ◌∙◌, arith, range_with_len, mul_comm, mul-div_left, get_or-range_with_len, length-range_with_len, region, Axis, Primary, Secondary, Opening, BlobShape, shard_count, symbol_size, crossing, BlobMetadata, roots_of, symbol_size-least, root_over, IsPathTo, path_over, IsCodedMatrix, IsExtended, row_of, column_of, line_of, sliver_of, run_fits, region_long, line_is_word, lines_cross, sliver_long, word_unique, HoldsSliver, HoldsOpening, IsOpeningOf, metadata_over}
use Rattle.std.proofs.lemmas.Option.{slice_get-map, slice_get_read}
use Rattle.wal_tree.proofs.Honest.{IsPathTo-path_of}
use Rattle.wal_matrix.specs.Word.{IsWordOf}

-- the value of a function at a number, in the list of its values
pub value_at : (f : ℕ → List ℕ) (n i : ℕ) → i < n → slice_get (map f (range_with_len 0 n)) i ≡ Some (f i)
value_at f n i l =
    let at = get_or-range_with_len 0 n i i l in
    slice_get-map f (range_with_len 0 n) i
    ∙ ap (option_map f) (slice_get_read (range_with_len 0 n) n i i (sym (length-range_with_len 0 n)) l (omega (arith, at)))

-- the root of an axis and index in the metadata over a matrix
pub root_of_line : (digest : List ℕ → List ℕ) (axis : Axis) (shape : BlobShape) (e : List ℕ) (i : ℕ) → i < shard_count shape.f
    → slice_get (roots_of axis (metadata_over digest shape e)) i
    ≡ Some (root_over digest (symbol_size shape.f shape.length) (line_of axis shape.f (symbol_size shape.f shape.length) e i))
unfolding metadata_over
root_of_line digest Primary shape e i h =
    let n = shard_count shape.f in
    let s = symbol_size shape.f shape.length in value_at (λ r. root_over digest s (row_of n s e r)) n i h
root_of_line digest Secondary shape e i h =
    let n = shard_count shape.f in
    let s = symbol_size shape.f shape.length in value_at (λ c. root_over digest s (column_of n s e c)) n i h

-- the metadata over a matrix of codewords commits the slivers of either axis
pub honest_sliver : (digest : List ℕ → List ℕ) (axis : Axis) (shape : BlobShape) (e : List ℕ) (i : ℕ)
    → IsCodedMatrix shape.f (symbol_size shape.f shape.length) e → i < shard_count shape.f
    → HoldsSliver digest (metadata_over digest shape e) axis i (sliver_of axis shape.f (symbol_size shape.f shape.length) e i)
unfolding metadata_over
honest_sliver digest axis shape e i matrix h =
    let s = symbol_size shape.f shape.length in
    record {
      within = h;
      size = sliver_long axis shape.f s e i matrix.size h;
      word = line_of axis shape.f s e i;
      is_word = line_is_word axis shape.f s e i matrix h;
      root = root_of_line digest axis shape e i h;
    }

-- a sliver has one codeword
pub one_word : (axis : Axis) (f long : ℕ) (sliver a b : List ℕ) → f ≤ 333 → IsWordOf axis f (symbol_size f long) sliver a
    → IsWordOf axis f (symbol_size f long) sliver b → a ≡ b
one_word axis f long sliver a b few =
    let least = symbol_size-least f long in
    let some = least.positive in word_unique axis f (symbol_size f long) sliver a b few least.even (omega arith)

-- that of a held sliver has the committed root
pub held_root : (digest : List ℕ → List ℕ) (m : BlobMetadata) (axis : Axis) (index : ℕ) (sliver word : List ℕ) → m.f ≤ 333
    → HoldsSliver digest m axis index sliver → IsWordOf axis m.f (symbol_size m.f m.length) sliver word
    → slice_get (roots_of axis m) index ≡ Some (root_over digest (symbol_size m.f m.length) word)
held_root digest m axis index sliver word few held is =
    held.root ∙ ap (λ (w : List ℕ). Some (root_over digest (symbol_size m.f m.length) w)) (one_word axis m.f m.length sliver held.word word few held.is_word is)

-- the path of a place of n symbols of s bytes leads from the symbol there to their root
pub path_to_symbol : (digest : List ℕ → List ℕ) (size_is : (text : List ℕ) → length (digest text) ≡ 32) (n s place : ℕ) (word : List ℕ) → 0 < s
    → length word ≡ n * s → place < n → IsPathTo digest (root_over digest s word) n place (region s word place) (path_over digest s word place)
path_to_symbol digest size_is n s place word some long h =
    let count : length word / s ≡ n = ap (λ (k : ℕ). k / s) long ∙ mul-div_left n some in
    rw (← count, mul_comm s place) (IsPathTo-path_of digest size_is s place word (omega (arith, count, h)))

-- the opening that a held sliver gives holds
pub honest_opening : (digest : List ℕ → List ℕ) (size_is : (text : List ℕ) → length (digest text) ≡ 32) (m : BlobMetadata) (axis : Axis) (index : ℕ) (sliver : List ℕ)
    (o : Opening) → m.f ≤ 333 → index < shard_count m.f → HoldsSliver digest m (crossing axis) o.cross sliver → IsOpeningOf digest m axis index sliver o
    → HoldsOpening digest m axis index o
honest_opening digest size_is m axis index sliver o few h held is =
    let n = shard_count m.f in
    let s = symbol_size m.f m.length in
    let least = symbol_size-least m.f m.length in
    let some : 0 < s = (let wide = least.positive in omega arith) in
    let long : length is.word ≡ n * s = is.is_word.coded.size in
    record {
      within = h;
      cross = held.within;
      size = ap length is.symbol ∙ region_long s index is.word (omega (arith, run_fits index n s h, long));
      root = root_over digest s is.word;
      committed = held_root digest m (crossing axis) o.cross sliver is.word few held is.is_word;
      leads = rw (is.symbol, is.path) (path_to_symbol digest size_is n s index is.word some long h);
    }

-- a sliver gives one opening
pub one_opening : (digest : List ℕ → List ℕ) (m : BlobMetadata) (axis : Axis) (index : ℕ) (sliver : List ℕ) (o p : Opening) → m.f ≤ 333
    → IsOpeningOf digest m axis index sliver o → IsOpeningOf digest m axis index sliver p → (o.symbol ≡ p.symbol) × (o.path ≡ p.path)
one_opening digest m axis index sliver o p few ho hp =
    let s = symbol_size m.f m.length in
    let same = one_word (crossing axis) m.f m.length sliver ho.word hp.word few ho.is_word hp.is_word in (
      ho.symbol ∙ ap (λ (w : List ℕ). region s w index) same ∙ sym hp.symbol,
      ho.path ∙ ap (λ (w : List ℕ). path_over digest s w index) same ∙ sym hp.path,
    )

module _ (digest : List ℕ → List ℕ) (m : BlobMetadata) (blob e : List ℕ) (extended : IsExtended m.f blob e)
    (is : m ≡ metadata_over digest (record { format = m.format; f = m.f; length = length blob }) e) where
  -- the matrix of a blob, by the numbers of its metadata
  pub committed_matrix : IsCodedMatrix m.f (symbol_size m.f m.length) e
  unfolding metadata_over
  committed_matrix =
      subst (λ (long : ℕ). IsCodedMatrix m.f (symbol_size m.f long) e) (sym (ap (λ (x : BlobMetadata). x.length) is)) extended.coded

  -- a blob's metadata commits the slivers of its matrix
  pub committed_sliver : (axis : Axis) (i : ℕ) → i < shard_count m.f → HoldsSliver digest m axis i (sliver_of axis m.f (symbol_size m.f m.length) e i)
  unfolding metadata_over
  committed_sliver axis i h =
      let P : BlobMetadata → Type 0 = λ x. HoldsSliver digest x axis i (sliver_of axis x.f (symbol_size x.f x.length) e i) in
      subst P (sym is) (honest_sliver digest axis (record { format = m.format; f = m.f; length = length blob }) e i extended.coded h)

  -- and its symbols, by the siblings in the crossing lines
  pub committed_opening : (size_is : (text : List ℕ) → length (digest text) ≡ 32) (axis : Axis) (index cross : ℕ) → m.f ≤ 333 → index < shard_count m.f
      → cross < shard_count m.f → HoldsOpening digest m axis index (record {
        cross = cross;
        symbol = region (symbol_size m.f m.length) (line_of axis m.f (symbol_size m.f m.length) e index) cross;
        path = path_over digest (symbol_size m.f m.length) (line_of (crossing axis) m.f (symbol_size m.f m.length) e cross) index;
      })
  committed_opening size_is axis index cross few h there =
      let s = symbol_size m.f m.length in
      let matrix = committed_matrix in
      let line = line_of (crossing axis) m.f s e cross in
      honest_opening digest size_is m axis index (sliver_of (crossing axis) m.f s e cross)
      (record { cross = cross; symbol = region s (line_of axis m.f s e index) cross; path = path_over digest s line index })
      few h (committed_sliver (crossing axis) cross there)
      (record { word = line; is_word = line_is_word (crossing axis) m.f s e cross matrix there; symbol = lines_cross axis m.f s e index cross matrix.size h there; path = refl })
