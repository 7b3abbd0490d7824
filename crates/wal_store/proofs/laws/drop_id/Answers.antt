use Rattle.wal_store.proofs.CallLaws.{join_runs}
use Rattle.wal_store.proofs.laws.drop_id.Goals as goal

pub returns-clause-run : goal.returns-clause-run
returns-clause-run g c = join_runs _ _ _ _ _ _ c.drop_id.ensures.dropped
