use Rattle.wal_bundle.proofs.Common.{arith}
use Rattle.wal_bundle.proofs.Room.{member_columns-more}
use Rattle.wal_bundle.proofs.layout.member_columns.Goals as goal

pub loop-length-preserved : goal.loop-length-preserved
loop-length-preserved c =
    let more = member_columns-more c.args.size c.args.lengths.now c.loop-length.length-index c.loop-length-test.true in
    record {
      value =
          omega (arith, more, c.loop-length.invariant.value, rw c.from.ensures at c.columns_for-columns.ensures.value);
      most = omega (arith, c.loop-length.invariant.most, c.columns_for-columns.ensures.most);
    }
