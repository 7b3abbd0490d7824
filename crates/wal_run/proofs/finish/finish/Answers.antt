use Rattle.wal_run.proofs.Common.{refl, written, cut}
use Rattle.wal_run.proofs.finish.finish.Goals as goal

pub returns-in-Ok-clause-finishes : goal.returns-in-Ok-clause-finishes
returns-in-Ok-clause-finishes g c = written _ refl c.in-Ok.ensures.whole

pub returns-in-Err-clause-finishes : goal.returns-in-Err-clause-finishes
returns-in-Err-clause-finishes g c =
    cut _ refl c.in-Err.ensures.fault c.in-Err.ensures.part
