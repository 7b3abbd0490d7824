use Rattle.wal_lanes.proofs.Common.{◌∙◌, arith, length-set, slice_get_within}
use Rattle.wal_lanes.proofs.Taken.{other_group, part_taken}
use Rattle.wal_lanes.proofs.strips.take_strip.Goals as goal

pub each-preserved : goal.each-preserved
each-preserved c = (
  length-set c.each.groups c.each.place c.taken.result ∙ c.each.invariant.0,
  λ g after. other_group c.each.groups c.each.place g c.taken.result (λ e. absurd (omega arith)) ∙ c.each.invariant.1 g (omega arith),
  part_taken c.args.groups.now c.each.groups c.each.place c.args.long c.args.strip.now c.pieces.result.now _ c.taken.result (omega arith) c.each.invariant.1 c.each.invariant.2
      c.pieces.ensures.pieces c.taken.ensures,
)

pub returns-clause-each : goal.returns-clause-each
returns-clause-each c = λ g k few prefix seen piece edge room same held group new.
    c.each.invariant.2 g (omega (arith, slice_get_within c.each.groups g group new)) k few prefix seen piece edge room same held group new
