use Rattle.wal_event.proofs.report.put_begin.Goals as goal

pub returns-in-RefusedMoving : goal.returns-in-RefusedMoving
returns-in-RefusedMoving c = rw (c.in-RefusedMoving.is) c.put.ensures
