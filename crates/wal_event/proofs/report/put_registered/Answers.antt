use Rattle.wal_event.proofs.report.put_registered.Goals as goal

pub returns-in-RefusedPast : goal.returns-in-RefusedPast
returns-in-RefusedPast c = rw (c.in-RefusedPast.is) c.put.ensures

pub returns-in-RefusedMoving : goal.returns-in-RefusedMoving
returns-in-RefusedMoving c = rw (c.in-RefusedMoving.is) c.put-in-RefusedMoving.ensures
