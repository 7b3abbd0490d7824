use Rattle.wal_reader.proofs.Common.{arith}
use Rattle.wal_reader.proofs.IntakeLaws.{unfinished_long, lacking_whole}
use Rattle.wal_reader.proofs.intake.lacking.Goals as goal

pub overflow_sub-result-2 : goal.overflow_sub-result-2
overflow_sub-result-2 c = omega (arith, unfinished_long c.args.bytes.now c.requires c.if-bytes-lt-HEAD.false, c.size_in.ensures, c.from.ensures)

pub returns-clause-some : goal.returns-clause-some
returns-clause-some c = omega (arith, unfinished_long c.args.bytes.now c.requires c.if-bytes-lt-HEAD.false, c.size_in.ensures, c.from.ensures)

pub returns-clause-size : goal.returns-clause-size
returns-clause-size c = λ long. omega (arith, unfinished_long c.args.bytes.now c.requires long, c.size_in.ensures, c.from.ensures)

pub returns-clause-whole : goal.returns-clause-whole
returns-clause-whole c = λ long. lacking_whole c.args.bytes.now _ (λ i. omega (arith, c.type_inv.bytes i)) c.requires.1 long (omega (arith, unfinished_long c.args.bytes.now c.requires long, c.size_in.ensures, c.from.ensures))
