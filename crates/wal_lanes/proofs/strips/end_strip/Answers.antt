use Rattle.wal_lanes.proofs.Common.{◌∙◌, arith}
use Rattle.wal_lanes.proofs.Taken.{part_ended}
use Rattle.wal_lanes.proofs.strips.end_strip.Goals as goal

pub each-preserved : goal.each-preserved
each-preserved c = (
  c.write_digests.ensures.long ∙ c.each.invariant.0,
  part_ended c.args.groups.now c.each.place c.args.long c.args.seen c.args.count c.args.strip.now c.pieces.result.now c.each.out c.write_digests.new.out _ c.ended-state.result c.lanes_left.result
      (omega arith) c.each.invariant.1 c.pieces.ensures.pieces c.ended-state.ensures c.lanes_left.ensures.all c.write_digests.ensures.before c.write_digests.ensures.each,
)

pub returns-clause-each : goal.returns-clause-each
returns-clause-each c = λ g k few within prefix piece all same held.
    c.each.invariant.1 g (omega arith) k few within prefix piece all same held
