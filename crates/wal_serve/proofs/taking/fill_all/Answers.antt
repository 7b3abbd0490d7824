-- Each piece goes right after the pieces before it.
use Rattle.wal_serve.proofs.Common.{◌<◌, length, take, arith, Consumes-kept, Takes}
use Rattle.wal_serve.proofs.TakingLaws.{rose_since, ends_behind, next_consumed, written_long, taken_whole}
use Rattle.wal_serve.proofs.taking.fill_all.Goals as goal

pub pieces-preserved : goal.pieces-preserved
pieces-preserved g c =
    let at = c.pieces.invariant in
    let piece = c.read.new.into in
    let long = written_long c.pieces.done c.pieces.into piece at.within c.read.auto.into in
    let some = c.in-Ok.ensures in record {
      within = omega (arith, long, some.bound.0, at.within);
      taken =
          next_consumed _ _ _ c.pieces.done c.in-Ok.count c.pieces.into piece at.within some.bound.0 at.taken some.bytes.0;
      later = omega (arith, at.later, c.read.ensures.later);
    }

pub returns-in-Ok-eq0-clause-takes : goal.returns-in-Ok-eq0-clause-takes
returns-in-Ok-eq0-clause-takes g c =
    let at = c.pieces.invariant in
    let front = take c.pieces.done c.pieces.into in
    let piece = c.read.new.into in
    let long = written_long c.pieces.done c.pieces.into piece at.within c.read.auto.into in
    let read = c.in-Ok-eq0.ensures in
    let none = c.in-Ok-eq0.field-0-test in
    let few : length front < length c.pieces.into = omega (arith, long, c.pieces-test.true) in (
      front,
      ends_behind _ _ _ _ _ _ front (take c.in-Ok-eq0.field-0 piece) at.taken read.bytes.0
          (omega (arith, read.bound.1, none)) (omega (arith, long, few)) (omega (arith, long, few))
          (read.bytes.1 none (omega (arith, long, c.pieces-test.true))),
      λ is. absurd cc,
    )

pub returns-in-Err-clause-takes : goal.returns-in-Err-clause-takes
returns-in-Err-clause-takes g c =
    let at = c.pieces.invariant in
    let front = take c.pieces.done c.pieces.into in
    let long = written_long c.pieces.done c.pieces.into c.read.new.into at.within c.read.auto.into in
    let few : length front < length c.pieces.into = omega (arith, long, c.pieces-test.true) in (
      front,
      Takes.failed front (Consumes-kept _ _ _ front at.taken c.in-Err.ensures.bytes) (omega (arith, long, few))
          (omega (arith, long, few)) (rose_since _ _ _ at.later c.in-Err.ensures.failed),
      λ is. absurd cc,
    )

pub returns-clause-takes : goal.returns-clause-takes
returns-clause-takes g c =
    taken_whole _ _ _ c.pieces.done c.pieces.into c.pieces.invariant.within c.pieces-test.false c.pieces.invariant.taken
