use Rattle.wal_run.proofs.Common.{metadata_shown, recorded}
use Rattle.wal_run.proofs.Recoveries.{recovered_as}
use Rattle.wal_run.proofs.Says.{no_memory, says_as}
use Rattle.wal_run.proofs.recover.recover_under.Goals as goal

pub returns-in_err-outcome : goal.returns-in_err-outcome
returns-in_err-outcome g c = no_memory _ _ c.from_residual.ensures.1

pub returns : goal.returns
returns g c =
    says_as _ _ _ (c.recovered_answer.ensures _ (rw c.shape.ensures.value at c.symbol_count-need.ensures.value)) (λ s text p.
    recovered_as g.H.Hash32.digest c.args.id.now c.args.axis c.args.index (recorded c.args.payloads.now (metadata_shown c.args.m)) c.in_ok-outcome.outcome
    c.in_ok-outcome.ensures.recovery s text p.0 p.1)
