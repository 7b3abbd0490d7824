use Rattle.wal_run.proofs.Samples.{sum_is}
use Rattle.wal_run.proofs.Says.{no_memory, says_as}
use Rattle.wal_run.proofs.sample.sum_up.Goals as goal

pub returns-in_err-schedule : goal.returns-in_err-schedule
returns-in_err-schedule g c = no_memory _ _ c.from_residual.ensures.1

pub returns-in_err-summed : goal.returns-in_err-summed
returns-in_err-summed g c = no_memory _ _ c.from_residual-in_err-summed.ensures.1

pub returns : goal.returns
returns g c =
    says_as _ _ _ c.summed_answer.ensures
    (sum_is g.H.Hash32.digest c.args.number c.in_ok-summed.summed (c.in_ok-schedule.schedule, c.in_ok-schedule.ensures.sample, c.in_ok-summed.ensures))
