use Rattle.wal_frame.proofs.Common.{sym, ap, opening_shown, frame_shown}
use Rattle.wal_frame.proofs.BufferLaws.{opening_size}
use Rattle.wal_frame.proofs.writing.frame_size.Goals as goal

pub returns-in-Opening : goal.returns-in-Opening
returns-in-Opening c =
    sym (opening_size (frame_shown c.args.frame.now) c.in-Opening.id.0 c.in-Opening.axis c.in-Opening.index (opening_shown c.in-Opening.opening) (ap frame_shown c.in-Opening.is) c.requires)
