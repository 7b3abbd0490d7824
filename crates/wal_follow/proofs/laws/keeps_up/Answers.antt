use Rattle.wal_follow.proofs.KeepsUp.{keeps}
use Rattle.wal_follow.proofs.laws.keeps_up.Goals as goal

pub returns : goal.returns
returns c = keeps
