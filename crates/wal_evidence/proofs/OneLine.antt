-- Openings that hold, of distinct crosses and as many as a sliver has symbols, lie on one codeword.
use Rattle.wal_evidence.proofs.Common.{◌≡◌, ℕ, ◌*◌, ◌<◌, List, [], ◌∷◌, length, get_or, slice_index, All, sym, ap, subst, ◌∙◌, arith, get_or-map, length-map, All-head, All-tail, region, Axis, Opening, BlobShape, IsShape, shard_count, sliver_symbols, symbol_size, BlobMetadata, symbol_size-least, AreBytes, bytes_of_part, bytes_joined, AreEnough, IsLineThrough, ShowLine, crosses_of, symbols_of}
use Rattle.wal_matrix.specs.Word.{IsWordThrough}
use Rattle.wal_matrix.proofs.MatrixLaws.{bytes_within}
use Rattle.wal_matrix.proofs.Solved.{known_symbols, solved_unique}
use Rattle.wal_evidence.proofs.Pieces.{piece_at, pieces_long}

-- an opening of nothing
abbrev pub no_opening : Opening
no_opening = record { cross = 0; symbol = []; path = [] }

-- symbols of s bytes have s bytes each
pub symbols_long : (s : ℕ) (openings : List Opening) → All (λ o. length o.symbol ≡ s) openings → length (symbols_of openings) ≡ length openings * s
symbols_long s openings sizes = pieces_long (λ (o : Opening). o.symbol) s openings sizes

-- and stand one after the other
pub symbol_at : (s : ℕ) (openings : List Opening) (k : ℕ) (d : Opening) → All (λ o. length o.symbol ≡ s) openings → k < length openings
    → region s (symbols_of openings) k ≡ (get_or openings k d).symbol
symbol_at s openings k d sizes l = piece_at (λ (o : Opening). o.symbol) s openings k d sizes l

-- symbols of bytes are bytes
pub symbols_bytes : (openings : List Opening) → All (λ o. AreBytes o.symbol) openings → AreBytes (symbols_of openings)
symbols_bytes [] each i = omega arith
symbols_bytes (o ∷ openings) each i =
    bytes_joined o.symbol (symbols_of openings) (All-head (λ (x : Opening). AreBytes x.symbol) o openings each)
    (λ j. symbols_bytes openings (All-tail (λ (x : Opening). AreBytes x.symbol) o openings each) j) i

module _ (digest : List ℕ → List ℕ) (m : BlobMetadata) (axis : Axis) (index : ℕ) (openings : List Opening) (are : AreEnough digest m axis index openings) where
  pub symbol_sizes : All (λ o. length o.symbol ≡ symbol_size m.f m.length) openings
  symbol_sizes k d l = (are.held k d l).size

  pub crosses_within : All (λ i. i < shard_count m.f) (crosses_of openings)
  crosses_within k d l =
      let inside : k < length openings = omega (arith, l, length-map openings (λ (o : Opening). o.cross)) in
      rw (get_or-map (λ (o : Opening). o.cross) openings k no_opening d inside) (are.held k no_opening inside).cross

  pub count_known : sliver_symbols axis m.f ≡ length (crosses_of openings)
  count_known = sym are.count ∙ sym (length-map openings (λ (o : Opening). o.cross))

  -- the symbol of an opening is that of a codeword through them at its cross
  pub line_symbol : (word : List ℕ) → IsLineThrough m axis openings word → (k : ℕ) (d : Opening) → k < length openings
      → region (symbol_size m.f m.length) word (get_or openings k d).cross ≡ (get_or openings k d).symbol
  line_symbol word through k d l =
      let s = symbol_size m.f m.length in
      let known : slice_index (crosses_of openings) k ≡ (get_or openings k d).cross = get_or-map (λ (o : Opening). o.cross) openings k d 0 l in
      let at = through.through k (omega (arith, l, length-map openings (λ (o : Opening). o.cross))) in
      cc (known, at, symbol_at s openings k d symbol_sizes l)

  -- there is one codeword through them
  pub one_line : IsShape m.f m.length → (a b : List ℕ) → IsLineThrough m axis openings a → IsLineThrough m axis openings b → a ≡ b
  one_line shape a b through_a through_b =
      let n = shard_count m.f in
      let s = symbol_size m.f m.length in
      let known = crosses_of openings in
      let loaded = symbols_of openings in
      let least = symbol_size-least m.f m.length in
      let bytes : AreBytes a = bytes_within a through_a.coded.fits in
      let each : All (λ o. AreBytes o.symbol) openings =
      (λ k d l. subst AreBytes (line_symbol a through_a k d l) (bytes_of_part s (s * (get_or openings k d).cross) a bytes)) in
      let size : length loaded ≡ length known * s =
      symbols_long s openings symbol_sizes ∙ ap (λ (k : ℕ). k * s) (sym (length-map openings (λ (o : Opening). o.cross))) in
      solved_unique n s known loaded
      (known_symbols n s known loaded (omega (arith, shape.1, least.positive)) least.even
      (omega (arith, shape.1, least.positive)) are.distinct crosses_within size (symbols_bytes openings each))
      a b (rw count_known at through_a) (rw count_known at through_b)

  -- the codeword that is computed from them is the one that they show
  pub line_shown : (shape : BlobShape) (along : Axis) (known loaded word : List ℕ) → shape ≡ record { format = m.format; f = m.f; length = m.length } → along ≡ axis
      → known ≡ crosses_of openings → loaded ≡ symbols_of openings → IsWordThrough along shape.f (symbol_size shape.f shape.length) known loaded word
      → ShowLine digest m axis index openings word
  line_shown shape along known loaded word shape_is along_is known_is loaded_is is_word =
      record { enough = are; through = rw (shape_is, along_is, known_is, loaded_is) at is_word }
