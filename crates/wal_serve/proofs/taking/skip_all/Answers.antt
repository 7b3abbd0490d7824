use Rattle.wal_serve.proofs.Common.{◌≡◌, ◌++◌, ◌<◌, ◌≤◌, length, take, arith, length-append, length-take-le, Consumes-trans, Consumes-kept, whole, Takes}
use Rattle.wal_serve.proofs.TakingLaws.{rose_since, ends_behind, front_long}
use Rattle.wal_serve.proofs.taking.skip_all.Goals as goal

pub returns-in-Ok-eq0-clause-takes : goal.returns-in-Ok-eq0-clause-takes
returns-in-Ok-eq0-clause-takes g c =
    let so_far = c.pieces.invariant.taken in
    let read = c.in-Ok-eq0.ensures in
    let none = c.in-Ok-eq0.field-0-test in
    let count = c.min-count.result in
    let le : count ≤ length c.pieces.scratch = omega (arith, c.min-count.ensures) in
    let room : 0 < length c.read.new.into = omega (arith, c.read.auto.into, length-take-le count c.pieces.scratch le, c.min-count.ensures, c.pieces.invariant.some, c.pieces-test.true) in (
      so_far.0,
      ends_behind _ _ _ _ _ _ so_far.0 (take c.in-Ok-eq0.field-0 c.read.new.into) so_far.1 read.bytes.0
          (omega (arith, read.bound.1, none)) (omega (arith, so_far.2, c.pieces-test.true)) (omega (arith, so_far.2, c.pieces-test.true)) (read.bytes.1 none room),
    )

pub pieces-preserved : goal.pieces-preserved
pieces-preserved g c =
    let so_far = c.pieces.invariant.taken in
    let piece = c.read.new.into in
    let count = c.min-count.result in
    let le : count ≤ length c.pieces.scratch = omega (arith, c.min-count.ensures) in
    let read = c.in-Ok.ensures in
    let got : length piece ≡ count = omega (arith, c.read.auto.into, length-take-le count c.pieces.scratch le) in record {
      within = omega (arith, read.bound.0, got, c.min-count.ensures, c.pieces-test.true);
      some = omega (arith, front_long count c.pieces.scratch piece c.read.auto.into le, c.pieces.invariant.some);
      taken = (
        so_far.0 ++ take c.in-Ok.count piece,
        Consumes-trans _ _ _ so_far.0 (take c.in-Ok.count piece) so_far.1 read.bytes.0,
        omega (arith, length-append so_far.0 (take c.in-Ok.count piece), so_far.2, read.bound.1),
      );
      later = omega (arith, c.pieces.invariant.later, c.read.ensures.later);
    }

pub returns-in-Err-clause-takes : goal.returns-in-Err-clause-takes
returns-in-Err-clause-takes g c =
    let so_far = c.pieces.invariant.taken in (
      so_far.0,
      Takes.failed so_far.0 (Consumes-kept _ _ _ so_far.0 so_far.1 c.in-Err.ensures.bytes)
          (omega (arith, so_far.2, c.pieces-test.true)) (omega (arith, so_far.2, c.pieces-test.true))
          (rose_since _ _ _ c.pieces.invariant.later c.in-Err.ensures.failed),
    )

pub returns-clause-takes : goal.returns-clause-takes
returns-clause-takes g c =
    let so_far = c.pieces.invariant.taken in
    let all : length so_far.0 ≡ c.args.size = omega (arith, so_far.2, c.pieces.invariant.within, c.pieces-test.false) in
    (so_far.0, whole so_far.0 so_far.1 all (omega arith))
