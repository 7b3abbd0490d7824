use Rattle.wal_run.proofs.Common.{refl, finished, lost_sink, performed, succeeds, unfinished, wanted_memory, written}
use Rattle.wal_run.specs.Replaying.{whole}
use Rattle.wal_run.proofs.Replays.{collision_told, done_spelled}
use Rattle.wal_run.proofs.replay.put_lines.Goals as goal

pub returns-in-Ok-Whole-clause-does : goal.returns-in-Ok-Whole-clause-does
returns-in-Ok-Whole-clause-does g c = λ input is_read.
    let t = rw c.in-Ok-Whole.field-0-is at c.in-Ok-Whole.ensures.replays in
    done_spelled g.H.Hash32.digest c.args.schedule.now input _ _ _ _ is_read
    (performed 0 (finished 0 0 (written _ (succeeds _ (whole t.0 t.1 t.2)) t.3)))

pub returns-in-Ok-Collision-clause-does : goal.returns-in-Ok-Collision-clause-does
returns-in-Ok-Collision-clause-does g c = λ input is_read.
    let t = rw c.in-Ok-Collision.field-0-is at c.in-Ok-Collision.ensures.replays in
    done_spelled g.H.Hash32.digest c.args.schedule.now input _ _ _ _ is_read
    (performed 10 (finished 10 10 (written _ (collision_told g.H.Hash32.digest c.args.schedule.now t.0 t.1 t.2) t.3)))

pub returns-in-Err-Memory-clause-does : goal.returns-in-Err-Memory-clause-does
returns-in-Err-Memory-clause-does g c = λ input is_read.
    let t = rw c.in-Err-Memory.field-0-is at c.in-Err-Memory.ensures.replays in
    done_spelled g.H.Hash32.digest c.args.schedule.now input _ _ _ _ is_read (wanted_memory _ (unfinished t.0 t.1 t.2 t.3) t.4)

pub returns-in-Err-WriteFault-clause-does : goal.returns-in-Err-WriteFault-clause-does
returns-in-Err-WriteFault-clause-does g c = λ input is_read.
    let t = rw c.in-Err-WriteFault.field-0-is at c.in-Err-WriteFault.ensures.replays in
    done_spelled g.H.Hash32.digest c.args.schedule.now input _ _ _ _ is_read (lost_sink _ (t.0, t.1, refl) t.2 t.3)
