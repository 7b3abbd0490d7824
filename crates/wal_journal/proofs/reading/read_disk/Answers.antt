use Rattle.wal_journal.proofs.Moments.{sync_left, started, goes_on, both_runs, weaker}
use Rattle.wal_journal.proofs.reading.read_disk.Goals as goal

pub returns-clause-any_moment : goal.returns-clause-any_moment
returns-clause-any_moment g c = λ told.
    both_runs (goes_on (started (g.met.D.Disk.only_now told c.args.disk.now)) (c.sync.ensures.time told)
    (sync_left c.sync.result _ _ _ _ _ _ c.sync.ensures.now (c.sync.ensures.told told)))
    (weaker (c.read_records.ensures.still told).run
    (sync_left c.sync.result _ _ _ _ _ _ c.sync.ensures.now (c.sync.ensures.told told)))
