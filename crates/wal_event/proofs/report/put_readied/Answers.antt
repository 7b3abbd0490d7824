use Rattle.wal_event.proofs.report.put_readied.Goals as goal

pub returns-in-RefusedNotMoving : goal.returns-in-RefusedNotMoving
returns-in-RefusedNotMoving c = rw (c.in-RefusedNotMoving.is) c.put.ensures
