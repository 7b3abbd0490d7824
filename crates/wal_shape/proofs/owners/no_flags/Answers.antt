use Rattle.wal_shape.proofs.OwnersLaws.{flag_cleared}
use Rattle.wal_shape.proofs.owners.no_flags.Goals as goal

pub returns : goal.returns
returns c = λ k. flag_cleared 1000 k
