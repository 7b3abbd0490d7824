-- The next piece goes right after the pieces before it.
use Rattle.wal_port.proofs.Common.{length, ap, arith, length-drop}
use Rattle.wal_port.proofs.Rooms.{Appends-next, take-rest}
use Rattle.wal_port.proofs.transfers.put_all.Goals as goal

pub writes-preserved : goal.writes-preserved
writes-preserved g c =
    let bytes = c.args.bytes.now in
    let done = c.writes.done in
    let next = c.in_ok-done.ensures in record {
      within = omega (arith, next.bound, ap length (take-rest done bytes), length-drop done bytes);
      put = Appends-next _ _ _ bytes done c.in_ok-done.field-0 c.writes.invariant.put next.bytes;
      later = omega (arith, c.writes.invariant.later, c.write.ensures.later);
    }
