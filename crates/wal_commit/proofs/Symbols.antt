-- The symbols of a blob's matrix as pieces: their strips, and their leaf digests.
use Rattle.wal_commit.proofs.Common.{◌≡◌, ℕ, ◌+◌, ◌*◌, ◌/◌, ◌%◌, ◌<◌, List, length, take, drop, refl, sym, ap, subst, ◌∙◌, arith, div-add-mod', mod_below, mul-add-lt, lt_of_mul-lt-mul_right, shard_count, symbol_size, AreDigestsOf, IsStrip, IsExtended, symbol, AreLeafDigests, BlobState, IsSymbolAt, bytes_of_symbol, symbols_of}
use Rattle.wal_matrix.specs.Strips.{IsMatrixStrip}

-- the strip of the symbol at a place, from those of the symbols by row and column
strip_at : (n s from long place : ℕ) (strip e : List ℕ) → 0 < n → place < n * n
    → ((r c : ℕ) → r < n → c < n → symbol n long strip r c ≡ take long (drop from (symbol n s e r c)))
    → take long (drop (place * long) strip) ≡ take long (drop from (take s (drop (place * s) e)))
unfolding symbol
strip_at n s from long place strip e some h each =
    let whole : place / n * n + place % n ≡ place = div-add-mod' place n in
    let column = mod_below place n some in
    let less : place / n * n < n * n = omega (arith, whole) in
    let row : place / n < n = lt_of_mul-lt-mul_right n less in
    subst (λ (z : ℕ). take long (drop (z * long) strip) ≡ take long (drop from (take s (drop (z * s) e)))) whole
    (each (place / n) (place % n) row column)

-- a strip of the matrix is one of the pieces
pub strip_of_symbols : (b : BlobState) (from long : ℕ) (strip : List ℕ) → length b.bytes ≡ b.shape.length
    → IsMatrixStrip b.shape.f (symbol_size b.shape.f b.shape.length) b.bytes from long strip
    → IsStrip (IsSymbolAt b) (symbols_of b) from long strip
strip_of_symbols b from long strip same is =
    λ k h piece at.
    let own : IsMatrixStrip b.shape.f (bytes_of_symbol b) b.bytes from long strip =
    subst (λ (z : ℕ). IsMatrixStrip b.shape.f (symbol_size b.shape.f z) b.bytes from long strip) (sym same) is in
    strip_at (shard_count b.shape.f) (bytes_of_symbol b) from long k strip at.matrix (omega arith) h (own at.matrix at.extended)
    ∙ ap (λ (ys : List ℕ). take long (drop from ys)) (sym at.part)

-- the digests of the pieces behind a zero byte are the leaf digests of the matrix
pub symbols_digested : (digest : List ℕ → List ℕ) (b : BlobState) (digests : List ℕ)
    → AreDigestsOf digest 0 (IsSymbolAt b) (symbols_of b) digests → (e : List ℕ) → IsExtended b.shape.f b.bytes e
    → AreLeafDigests digest (shard_count b.shape.f) (bytes_of_symbol b) e digests
unfolding symbol
symbols_digested digest b digests are e is =
    let n = shard_count b.shape.f in
    let s = bytes_of_symbol b in
    record {
      whole = is.coded.size;
      long = are.long;
      each = λ r c hr hc.
          let within : r * n + c < n * n = mul-add-lt r n c n hr hc in
          are.each (r * n + c) within (take s (drop ((r * n + c) * s) e)) (record { within = within; matrix = e; extended = is; part = refl });
    }
