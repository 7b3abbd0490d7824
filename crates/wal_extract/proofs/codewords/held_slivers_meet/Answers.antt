use Rattle.wal_extract.proofs.OneRoot.{held_one_root}
use Rattle.wal_extract.proofs.codewords.held_slivers_meet.Goals as goal

pub returns : goal.returns
returns g c = λ m axis index a b fit held_a held_b. held_one_root g.H.Hash32.digest m axis index a b fit.shape held_a held_b
