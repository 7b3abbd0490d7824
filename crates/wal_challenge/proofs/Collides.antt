-- A claim that is false of a blob goes against a digest that tells all texts apart.
use Rattle.wal_challenge.proofs.Common.{◌≡◌, ℕ, ◌*◌, ◌≤◌, List, length, All, refl, sym, ap, region, Claim, Opening, BlobShape, crossing, symbol_size, BlobMetadata, path_over, line_of, line_is_word, metadata_over, committed_matrix, committed_opening, IsDigest, bytes_of_all, one_symbol, path_bytes, one_to_one, IsFalseClaim}
use Rattle.wal_tree.specs.Collision.{CanCollide}
use Rattle.wal_tree.specs.Digests.{IsByte}
use Rattle.wal_matrix.proofs.Codewords.{bytes_of_part}
use Rattle.wal_matrix.proofs.MatrixLaws.{bytes_within}

-- a false claim about a blob gives two texts of one digest
pub false_collides : (digest : List ℕ → List ℕ) → IsDigest digest → (shape : BlobShape) (bytes : List ℕ) (claim : Claim) → shape.f ≤ 333 → length bytes ≡ shape.length
    → IsFalseClaim digest shape bytes claim → All IsByte claim.opening.symbol → All IsByte claim.opening.path → CanCollide digest
unfolding metadata_over
false_collides digest is shape bytes claim few long false symbol path none =
    let one = one_to_one digest is none in
    let e = false.matrix in
    let m : BlobMetadata = metadata_over digest shape e in
    let s = symbol_size shape.f shape.length in
    let over : m ≡ metadata_over digest (record { format = shape.format; f = shape.f; length = length bytes }) e =
    ap (λ (n : ℕ). metadata_over digest (record { format = shape.format; f = shape.f; length = n }) e) (sym long) in
    let coded = committed_matrix digest m bytes e false.extended over in
    let axis = claim.axis in
    let o = claim.opening in
    let line = line_of axis shape.f s e claim.index in
    let cross = line_of (crossing axis) shape.f s e o.cross in
    let line_bytes = bytes_within line (line_is_word axis shape.f s e claim.index coded false.holds.within).coded.fits in
    let cross_bytes = bytes_within cross (line_is_word (crossing axis) shape.f s e o.cross coded false.holds.cross).coded.fits in
    let own : Opening = record { cross = o.cross; symbol = region s line o.cross; path = path_over digest s cross claim.index } in
    let honest = committed_opening digest m bytes e false.extended over is.size axis claim.index o.cross few false.holds.within false.holds.cross in
    false.apart
    (one_symbol digest one m axis claim.index o own refl false.holds honest (bytes_of_all o.symbol symbol) (bytes_of_all o.path path)
    (bytes_of_part s (s * o.cross) line line_bytes) (path_bytes digest is s cross claim.index cross_bytes))
