-- The status tells why there are no words.
use Rattle.walrus_c.proofs.Common.{arith, inl, inr}
use Rattle.walrus_c.specs.Room.{no_memory, no_words}
use Rattle.walrus_c.proofs.room.untold.Goals as goal

pub returns-then-status-eq-NO_MEMORY : goal.returns-then-status-eq-NO_MEMORY
returns-then-status-eq-NO_MEMORY c text count why = no_memory

pub returns-else-status-eq-NO_MEMORY : goal.returns-else-status-eq-NO_MEMORY
returns-else-status-eq-NO_MEMORY c text count (inl five) = absurd (omega (arith, c.if-status-eq-NO_MEMORY.false, five))
returns-else-status-eq-NO_MEMORY c text count (inr bad) = no_words bad.1
