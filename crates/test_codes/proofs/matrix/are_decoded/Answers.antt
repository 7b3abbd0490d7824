use Rattle.std.proofs.Common.{◌≡◌, ◌*◌, length, sym, ◌∙◌, subst}
use Rattle.wal_shape.specs.Shape.{BlobShape, row_count, column_count, symbol_size}
use Rattle.wal_matrix.proofs.ToolsLaws.{six_words}
use Rattle.test_codes.proofs.matrix.are_decoded.Goals as goal

pub decode_primaries-requires-clause-size : goal.decode_primaries-requires-clause-size
decode_primaries-requires-clause-size c =
    let P : BlobShape → Type 0 = λ v. length c.args.joined.now ≡ row_count v.f * (column_count v.f * symbol_size v.f v.length) in
    subst P (sym c.in_ok-shape.ensures.ok.1) (c.requires.size ∙ sym six_words)
