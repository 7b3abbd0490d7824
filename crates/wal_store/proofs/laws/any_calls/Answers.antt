use Rattle.wal_store.proofs.CallLaws.{runs_agree, runs_together, never_wants}
use Rattle.wal_store.proofs.laws.any_calls.Goals as goal

pub returns : goal.returns
returns c = record { agree = runs_agree; together = runs_together; never = never_wants }
