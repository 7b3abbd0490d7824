use Rattle.wal_theorem.proofs.Headline.{run_safe, run_recovers}
use Rattle.wal_theorem.proofs.laws.every_run.Goals as goal

pub returns : goal.returns
returns g c = record { safe = run_safe g.H.Hash32.digest g.met.H.Hash32.size; recovers = run_recovers g.H.Hash32.digest g.met.H.Hash32.size }
