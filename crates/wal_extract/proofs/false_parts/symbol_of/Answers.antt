-- A symbol of a column is that of the row that crosses it.
use Rattle.wal_extract.proofs.Common.{Primary, shard_count, symbol_bytes, part_within}
use Rattle.wal_matrix.proofs.Words.{lines_cross}
use Rattle.wal_extract.proofs.false_parts.symbol_of.Goals as goal

pub part_at-requires : goal.part_at-requires
part_at-requires c =
    let size = rw c.shape.ensures at c.symbol_size-size.ensures.value in
    part_within c.args.cross (shard_count c.args.matrix.now.shape.f) c.symbol_size-size.result _ c.requires.cross
    (rw size c.row.ensures.long)

pub part_at-requires-in-Secondary : goal.part_at-requires-in-Secondary
part_at-requires-in-Secondary c =
    let size = rw c.shape.ensures at c.symbol_size-size.ensures.value in
    part_within c.args.index (shard_count c.args.matrix.now.shape.f) c.symbol_size-size.result _ c.requires.index
    (rw size c.row-in-Secondary.ensures.long)

pub returns-in-Secondary : goal.returns-in-Secondary
returns-in-Secondary c =
    let x = c.args.matrix.now in
    let size = rw c.shape.ensures at c.symbol_size-size.ensures.value in
    rw (c.part_at-in-Secondary.ensures.part, size, c.row-in-Secondary.ensures.value, c.in-Secondary.is)
    (lines_cross Primary x.shape.f (symbol_bytes x) x.cells _ _ c.requires.long c.requires.cross c.requires.index)
