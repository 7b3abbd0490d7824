-- The room is that of the words, and suffices.
use Rattle.walrus_c.proofs.Common.{sha256}
use Rattle.sha2.proofs.Facts256.{length-sha256}
use Rattle.walrus_c.proofs.Rooms.{suffices}
use Rattle.walrus_c.proofs.walrus_room.Goals as goal

pub returns-in-Ok-clause-exact : goal.returns-in-Ok-clause-exact
returns-in-Ok-clause-exact c = c.room_for.ensures _ c.in-Ok.ensures.words

pub returns-in-Ok-clause-suffices : goal.returns-in-Ok-clause-suffices
returns-in-Ok-clause-suffices c = suffices sha256 length-sha256 (c.room_for.ensures _ c.in-Ok.ensures.words)

pub returns-in-Err-clause-exact : goal.returns-in-Err-clause-exact
returns-in-Err-clause-exact c = c.untold.ensures _ _ c.in-Err.ensures.refused

pub returns-in-Err-clause-suffices : goal.returns-in-Err-clause-suffices
returns-in-Err-clause-suffices c = suffices sha256 length-sha256 (c.untold.ensures _ _ c.in-Err.ensures.refused)
