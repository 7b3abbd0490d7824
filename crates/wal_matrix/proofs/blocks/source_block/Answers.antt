use Rattle.wal_matrix.proofs.Common.{rules, ◌≡◌, ◌*◌, length, vec_len, ◌∙◌, row_count, column_count, symbol_size}
use Rattle.wal_matrix.proofs.PaddedLaws.{padded_is}
use Rattle.wal_matrix.proofs.blocks.source_block.Goals as goal

pub returns : goal.returns
returns c =
    let f = c.args.shape.now.f in
    let held = c.extend_from_slice.new.self in
    let whole : c.rows.result * c.cols.result * c.symbol_size.result ≡ row_count f * column_count f * symbol_size f
    (length c.args.bytes.now) =
    cc (c.rows.ensures.value, c.cols.ensures.value, c.symbol_size.ensures.value, c.requires) in
    c.in_ok-resize.ensures.items
    ∙ padded_is f _ (vec_len held) c.args.bytes.now held.items whole (search rules) (search rules)
