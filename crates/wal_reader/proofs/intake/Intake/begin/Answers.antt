use Rattle.wal_reader.proofs.Common.{arith, envelope}
use Rattle.wal_reader.proofs.intake.Intake.begin.Goals as goal

pub returns-in_ok-hear-in-Whole-clause-moves : goal.returns-in_ok-hear-in-Whole-clause-moves
returns-in_ok-hear-in-Whole-clause-moves g c =
    let begins = c.in-Whole.ensures.begins in
    let hears = c.in_ok-hear-in-Whole.ensures in record {
      bytes = envelope c.in-Whole.sender c.in-Whole.payload.now;
      parts = begins.1;
      some = omega arith;
      takes = hears.takes c.in-Whole.sender;
      count = omega (arith, hears.count);
      sound = hears.sound;
      settled = λ settled. let m = hears.memory settled in m.1;
    }
