use Rattle.wal_reader.proofs.Common.{ap, arith, ltb-true, size_in}
use Rattle.wal_reader.proofs.intake.Intake.is_too_long.Goals as goal

pub returns-then-len-ge-HEAD-clause-too_long : goal.returns-then-len-ge-HEAD-clause-too_long
returns-then-len-ge-HEAD-clause-too_long g c = λ more. (
  omega (arith, c.if-len-ge-HEAD.true, c.len.ensures, c.args.self.now.kept.ok.0),
  λ id payloads payload heard bytes fits long.
      let over = ltb-true _ _ more in
      c.most.ensures.past id payloads payload heard bytes fits (omega (arith, over, c.from.ensures, c.size_in.ensures, ap size_in c.deref.ensures.value, long)),
)
