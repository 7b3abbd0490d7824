use Rattle.wal_run.proofs.Common.{◌≡◌, ap, arith, row_count, Buffer, symbol_bytes}
use Rattle.wal_run.proofs.ShardTexts.{laid_none, laid_more, column_text-all}
use Rattle.wal_run.proofs.slivers.lay_column.Goals as goal

pub loop-row-init : goal.loop-row-init
loop-row-init c = record {
  laid = laid_none _ _ _ _ _;
  room = omega (arith, c.requires.room);
}

pub loop-row-preserved : goal.loop-row-preserved
loop-row-preserved c = record {
  laid = laid_more _ _ _ _ _ _ _ _ _ c.loop-row.invariant.laid c.symbol_at.ensures.value c.put.ensures;
  room = omega (arith, c.loop-row.invariant.room, c.symbol_at.ensures.long, ap (λ (b : Buffer). b.spare) c.put.ensures);
}

pub returns : goal.returns
returns c =
    let e = c.args.encoded.now in
    let all : c.loop-row.row ≡ row_count e.shape.f = omega (arith, c.loop-row-test.false, c.loop-row.auto.row-end, rw c.shape.ensures at c.rows-rows.ensures.value) in
    rw (column_text-all e.shape.f (symbol_bytes e) e.cells c.args.index c.loop-row.row all) at c.loop-row.invariant.laid
