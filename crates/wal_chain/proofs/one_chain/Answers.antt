use Rattle.wal_chain.proofs.Votes.{one_goes_on}
use Rattle.wal_chain.proofs.one_chain.Goals as goal

pub returns : goal.returns
returns c = record { one = one_goes_on }
