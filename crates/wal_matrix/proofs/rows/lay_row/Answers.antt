use Rattle.wal_matrix.proofs.Common.{rules, vec_len}
use Rattle.wal_matrix.proofs.RowLaws.{laid_after}
use Rattle.wal_matrix.proofs.rows.lay_row.Goals as goal

pub returns : goal.returns
returns c =
    laid_after c.args.start c.args.width c.args.run c.min-from.result c.min-to.result c.len.result
    (vec_len c.extend_from_slice.new.self)
    c.args.bytes.now c.args.cells.now.items c.extend_from_slice.new.self.items c.resize.new.self.items (search rules)
    (search rules) c.requires.room (search rules) (search rules) (search rules) c.in_ok-resize.ensures.items
