use Rattle.wal_store.proofs.CallLaws.{put_continues}
use Rattle.wal_store.proofs.laws.put.Goals as goal

pub returns-clause-run : goal.returns-clause-run
returns-clause-run g c = put_continues _ _ _ _ _ _ _ _ c.put.ensures.answer c.put.ensures.stored c.put.ensures.refused
