-- By induction on the list of gets.
use Rattle.wal_gateway.proofs.OneRun.{answers_only}
use Rattle.wal_gateway.proofs.laws.gets_have_one_answer.Goals as goal

pub returns : goal.returns
returns g c = record { gets = answers_only g.H.Hash32.digest }
