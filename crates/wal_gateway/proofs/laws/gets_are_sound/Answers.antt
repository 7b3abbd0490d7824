-- By induction on the list of gets.
use Rattle.wal_gateway.proofs.Sound.{sound_answers, sound_empty}
use Rattle.wal_gateway.proofs.laws.gets_are_sound.Goals as goal

pub returns-clause-empty : goal.returns-clause-empty
returns-clause-empty g c = sound_empty g.H.Hash32.digest

pub returns-clause-kept : goal.returns-clause-kept
returns-clause-kept g c = sound_answers g.H.Hash32.digest
