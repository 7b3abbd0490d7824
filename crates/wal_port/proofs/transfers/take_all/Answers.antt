-- What the last piece took counts with the pieces before it.
use Rattle.wal_port.proofs.Common.{arith, length-take, ℕ}
use Rattle.wal_port.proofs.Rooms.{Consumes-next, Consumes-within}
use Rattle.wal_port.proofs.transfers.take_all.Goals as goal

pub returns-then-len-count-clause-too_long : goal.returns-then-len-count-clause-too_long
returns-then-len-count-clause-too_long g c = λ _.
    Consumes-next _ _ _ c.reads.bytes.items c.read.new.into c.in_ok-count.count _
    c.reads.invariant.taken c.in_ok-count.ensures.bytes.0 c.in_ok-count.ensures.bound.1
    (omega (arith, c.read.auto.into, c.in_ok-count.ensures.bound.0, c.reads.bytes.ok.0, length-take {A = ℕ}))

pub returns-then-len-count-clause-lost : goal.returns-then-len-count-clause-lost
returns-then-len-count-clause-lost g c =
    Consumes-within _ _ _ c.reads.bytes.items c.read.new.into c.in_ok-count.count _
    c.reads.invariant.taken c.in_ok-count.ensures.bytes.0 c.in_ok-count.ensures.bound.1
    (omega (arith, c.read.auto.into, c.in_ok-count.ensures.bound.0, c.reads.bytes.ok.0, length-take {A = ℕ}))

pub returns-in_err-extend_from_slice-clause-short :
    goal.returns-in_err-extend_from_slice-clause-short
returns-in_err-extend_from_slice-clause-short g c = λ _.
    Consumes-within _ _ _ c.reads.bytes.items c.read.new.into c.in_ok-count.count _ c.reads.invariant.taken
    c.in_ok-count.ensures.bytes.0 c.in_ok-count.ensures.bound.1 (omega (arith, c.reads.bytes.ok.0))

pub returns-in_err-extend_from_slice-clause-lost :
    goal.returns-in_err-extend_from_slice-clause-lost
returns-in_err-extend_from_slice-clause-lost g c =
    Consumes-within _ _ _ c.reads.bytes.items c.read.new.into c.in_ok-count.count _ c.reads.invariant.taken
    c.in_ok-count.ensures.bytes.0 c.in_ok-count.ensures.bound.1 (omega (arith, c.reads.bytes.ok.0))
