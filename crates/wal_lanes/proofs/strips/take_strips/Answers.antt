use Rattle.wal_lanes.proofs.Common.{◌≡◌, ◌+◌, ◌*◌, ◌≤◌, refl, ◌∙◌, arith, mul-le-mul_right}
use Rattle.wal_lanes.proofs.Taken.{strip_taken}
use Rattle.wal_lanes.proofs.strips.take_strips.Goals as goal

pub each-init : goal.each-init
each-init g c =
    let none : 0 ≡ 0 * c.args.width = omega arith in (
      refl,
      refl,
      refl,
      omega arith,
      λ prefix held. rw (← none) held,
    )

pub each-preserved : goal.each-preserved
each-preserved g c =
    let turn = c.each.turn in
    let width = c.args.width in
    let up : (turn + 1) * width ≡ turn * width + width = omega arith in
    let below : (turn + 1) * width ≤ c.args.turns * width = mul-le-mul_right width (omega arith) in (
      c.fill_front.ensures.same ∙ c.each.invariant.0,
      c.take_strip.ensures.long ∙ c.each.invariant.1,
      c.fill_front.ensures.long ∙ c.each.invariant.2,
      omega (arith, c.each.invariant.3),
      λ prefix held.
          strip_taken prefix c.args.count (g.P.Pieces.size c.args.pieces.now) (g.P.Pieces.has c.args.pieces.now) (g.met.P.Pieces.sized c.args.pieces.now)
          (turn * width) width ((turn + 1) * width) c.each.groups c.take_strip.new.groups c.fill_front.new.strip c.each.invariant.3 up (omega (arith, c.requires.within))
          (rw c.each.invariant.0 at c.fill_front.ensures.strip)
          c.take_strip.ensures.each (c.each.invariant.4 prefix held),
    )

pub returns-clause-taken : goal.returns-clause-taken
returns-clause-taken g c = λ prefix held.
    let done : c.each.turn ≡ c.args.turns = omega arith in
    rw done at (c.each.invariant.4 prefix held)
