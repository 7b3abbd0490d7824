use Rattle.wal_reader.proofs.Common.{◌++◌, [], append-nil, arith}
use Rattle.wal_reader.proofs.intake.Intake.advance.Goals as goal

pub returns-then-is_too_long-clause-moves : goal.returns-then-is_too_long-clause-moves
returns-then-is_too_long-clause-moves g c =
    let over = c.pass_over.ensures in
    let m = c.pass-then-is_too_long.ensures in record {
      bytes = m.bytes;
      parts = m.parts;
      some = m.some;
      takes = λ id stream s. rw append-nil at (m.takes id (stream ++ []) (over.takes id stream s));
      count = omega (arith, over.same.1, m.count);
      sound = m.sound;
      settled = λ settled. m.settled (rw over.same.0 settled);
    }

pub pass_over-requires-clause-past : goal.pass_over-requires-clause-past
pass_over-requires-clause-past g c = let long = c.is_too_long.ensures.too_long c.if-is_too_long.true in long.1
