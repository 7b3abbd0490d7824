-- The room is that of the task which the words ask for.
use Rattle.walrus_c.specs.Room.{asked, no_memory, nothing_asked}
use Rattle.walrus_c.proofs.Rooms.{in_range}
use Rattle.walrus_c.proofs.room.room_for.Goals as goal

pub returns-in-Ok-Some : goal.returns-in-Ok-Some
returns-in-Ok-Some c text are =
    let found = rw c.in-Ok-Some.field-0-is at c.in-Ok-Some.ensures.found in
    rw (c.task_room.ensures (in_range found)) (asked _ are c.in-Ok-Some.task found)

pub returns-in-Ok-None : goal.returns-in-Ok-None
returns-in-Ok-None c text are = nothing_asked _ are (rw c.in-Ok-None.field-0-is at c.in-Ok-None.ensures.none)

pub returns-in-Err : goal.returns-in-Err
returns-in-Err c text are = no_memory
