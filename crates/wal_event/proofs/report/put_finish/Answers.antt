use Rattle.wal_event.proofs.report.put_finish.Goals as goal

pub returns-in-RefusedNotMoving : goal.returns-in-RefusedNotMoving
returns-in-RefusedNotMoving c = rw (c.in-RefusedNotMoving.is) c.put.ensures
