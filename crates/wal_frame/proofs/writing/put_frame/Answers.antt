use Rattle.wal_frame.proofs.Common.{ap, arith, opening_shown, frame_shown}
use Rattle.wal_frame.proofs.BufferLaws.{opening_size}
use Rattle.wal_frame.proofs.writing.put_frame.Goals as goal

pub put_opening-requires-clause-room : goal.put_opening-requires-clause-room
put_opening-requires-clause-room c =
    let size = opening_size (frame_shown c.args.frame.now) c.in-Opening.id.0 c.in-Opening.axis c.in-Opening.index (opening_shown c.in-Opening.opening) (ap frame_shown c.in-Opening.is) c.requires.frame in
    omega (arith, size, c.requires.room)
