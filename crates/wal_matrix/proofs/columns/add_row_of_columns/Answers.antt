-- The row is laid as zeros, and the given symbols are copied over its front.
use Rattle.wal_matrix.proofs.Common.{rules, ◌≡◌, ◌+◌, ◌-◌, ◌*◌, length, ◌++◌, replicate, vec_len, ◌∙◌, arith, take_at, take_all}
use borrow.Rule.Slice.PartMut.{put_mid}
use Rattle.wal_matrix.proofs.ColumnLaws.{row_added}
use Rattle.wal_matrix.proofs.columns.add_row_of_columns.Goals as goal

pub returns : goal.returns
returns c =
    let old = c.args.block.now.items in
    let width = c.args.layout.width * c.args.layout.size in
    let place = c.len-place.result in
    let k = place + c.args.given * c.args.layout.size - place in
    let laid = c.deref_mut.result.now in
    let at : place ≡ length old = search rules in
    let len : vec_len c.args.block.now ≡ length old = search rules in
    let left : place + width - vec_len c.args.block.now ≡ width = omega (arith, at, len) in
    let filled : laid ≡ old ++ replicate width 0 =
    cc (c.deref_mut.ensures.value, c.in_ok-resize.ensures.items, take_all (place + width) old (omega (arith, at)), left) in
    let piece = c.copy_column.new.into in
    let row = row_added c.args.layout.rows c.args.layout.width c.args.layout.size place k old c.args.columns.now laid piece c.args.given c.args.row c.requires.fewer at (omega arith) filled c.copy_column.ensures in
    take_at (put_mid place k laid piece) _ _ (search rules) ∙ row
