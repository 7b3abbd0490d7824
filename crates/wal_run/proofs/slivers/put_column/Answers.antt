use Rattle.wal_run.proofs.Common.{◌≡◌, ◌<◌, arith, Appends-nil, Appends-trans, row_count, symbol_bytes}
use Rattle.wal_run.proofs.Parts.{failed_within}
use Rattle.wal_run.proofs.ShardTexts.{column_split, column_text-all, column_text-more, column_text-none}
use Rattle.wal_run.proofs.slivers.put_column.Goals as goal

pub loop-row-init : goal.loop-row-init
loop-row-init g c = record {
  put = rw column_text-none (Appends-nil _);
  later = omega arith;
}

pub loop-row-preserved : goal.loop-row-preserved
loop-row-preserved g c = record {
  put = rw (← column_text-more _ _ _ _ _ _ c.symbol_at.ensures.value) (Appends-trans _ _ _ _ _ c.loop-row.invariant.put c.in_ok-put_all.ensures.whole);
  later = omega (arith, c.loop-row.invariant.later, c.put_all.ensures.later);
}

pub returns-in_err-put_all-clause-part : goal.returns-in_err-put_all-clause-part
returns-in_err-put_all-clause-part g c =
    let within : c.loop-row.row < row_count c.args.encoded.now.shape.f = omega (arith, rw c.shape.ensures at c.rows-rows.ensures.value) in
    failed_within _ _ _ _ _ _ _ _ (column_split _ _ _ _ _ _ within c.symbol_at.ensures.value) c.loop-row.invariant.put c.in_err-put_all.ensures.part

pub returns-clause-whole : goal.returns-clause-whole
returns-clause-whole g c =
    let e = c.args.encoded.now in
    let all : c.loop-row.row ≡ row_count e.shape.f = omega (arith, c.loop-row-test.false, c.loop-row.auto.row-end, rw c.shape.ensures at c.rows-rows.ensures.value) in
    rw (column_text-all e.shape.f (symbol_bytes e) e.cells c.args.index c.loop-row.row all) at c.loop-row.invariant.put
