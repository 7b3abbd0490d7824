-- What was copied to the caller is the front of what is still to come.
use Rattle.wal_port.proofs.Rooms.{drop-given, drop-none_given}
use Rattle.wal_port.proofs.mem_source.MemSourceSource.read.Goals as goal

pub returns-clause-bytes : goal.returns-clause-bytes
returns-clause-bytes c =
    let s = c.args.self.now in
    let into = c.copy_front-count.new.into in
    let k = c.copy_front-count.result in
    let front = c.copy_front-count.ensures in
    let held = c.deref-2.result.now in (
      drop-given s.bytes.items held into s.given k c.deref-2.ensures.value front.bytes,
      drop-none_given s.bytes.items held into s.given k s.piece s.some c.deref-2.ensures.value front.count,
    )
