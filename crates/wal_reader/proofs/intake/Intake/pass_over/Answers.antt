use Rattle.wal_reader.proofs.Common.{◌≤◌, length, refl, ap, arith}
use Rattle.wal_reader.proofs.IntakeLaws.{begins_past, sound_empty}
use Rattle.wal_reader.proofs.intake.Intake.pass_over.Goals as goal

pub returns-clause-takes : goal.returns-clause-takes
returns-clause-takes g c =
    let long : 7 ≤ length c.deref.result.now = omega (arith, ap length c.deref.ensures.value, c.requires.head) in
    begins_past g.H.Hash32.digest _ _ c.requires.kept c.requires.past
    (rw c.deref.ensures.value at (c.lacking-self.ensures.whole long)) c.lacking-self.ensures.some c.clear.ensures.items
    refl refl refl

pub returns-clause-sound : goal.returns-clause-sound
returns-clause-sound g c =
    sound_empty _ (omega (arith, c.requires.sound.room, c.clear.ensures.capacity)) c.requires.sound.limit
    c.clear.ensures.items
