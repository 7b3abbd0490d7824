use Rattle.wal_run.proofs.Common.{Keeps-refl, Read, no_memory}
use Rattle.wal_run.proofs.Endings.{kept_few}
use Rattle.wal_run.proofs.read.read_stream.Goals as goal

pub returns-in-Ok-clause-ends : goal.returns-in-Ok-clause-ends
returns-in-Ok-clause-ends g c = λ words asked. c.read_with.ensures.ends c.args.id.now c.in-Ok.ensures words asked

pub returns-in-Err-clause-ends : goal.returns-in-Err-clause-ends
returns-in-Err-clause-ends g c = λ words asked. no_memory (Read c.args.id.now) asked (kept_few _ _ 134217728 (Keeps-refl _)) (Keeps-refl _)
