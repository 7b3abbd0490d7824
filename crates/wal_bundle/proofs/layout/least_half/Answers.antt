use Rattle.wal_bundle.proofs.Common.{arith, rules}
use Rattle.wal_bundle.proofs.Room.{narrowed, narrowed_out, narrows_down, narrows_start, narrows_up}
use Rattle.wal_bundle.proofs.layout.least_half.Goals as goal

pub loop-low-init : goal.loop-low-init
loop-low-init c = narrows_start _ _ _

pub loop-low-preserved : goal.loop-low-preserved
loop-low-preserved c =
    let less = c.loop-low-test.true in
    narrows_up _ _ _ _ _ _ c.loop-low.invariant (omega arith) (omega arith) (search rules)

pub loop-low-preserved-then-has_room : goal.loop-low-preserved-then-has_room
loop-low-preserved-then-has_room c =
    let less = c.loop-low-test.true in
    narrows_down _ _ _ _ _ _ c.loop-low.invariant (omega arith) (omega arith) (c.has_room.ensures.0 c.if-has_room.true)

pub returns-clause-least : goal.returns-clause-least
returns-clause-least c = narrowed _ _ _ _ _ c.loop-low.invariant c.loop-low-test.false

pub returns-clause-none : goal.returns-clause-none
returns-clause-none c = narrowed_out _ _ _ _ _ c.loop-low.invariant
