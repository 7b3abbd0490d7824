use Rattle.wal_journal.proofs.Common.{inl, inr, on_err_weaker}
use Rattle.wal_journal.proofs.Moments.{both_runs, weaker}
use Rattle.wal_journal.proofs.write.append.Goals as goal

pub returns-in_err-write_synced-clause-any_moment : goal.returns-in_err-write_synced-clause-any_moment
returns-in_err-write_synced-clause-any_moment g c =
    λ told none. weaker (c.write_synced.ensures.any_moment told) (λ image agrees. inl (rw none at agrees))

pub returns-clause-any_moment : goal.returns-clause-any_moment
returns-clause-any_moment g c = λ told none.
    let first = c.in_ok-write_synced.ensures in
    both_runs (weaker (c.write_synced.ensures.any_moment told) (λ image agrees. inl (rw none at agrees)))
    (weaker (c.write_synced-2.ensures.any_moment told) (λ image agrees.
    inr (rw (first.settled told, first.written) at agrees)))

pub returns-clause-torn : goal.returns-clause-torn
returns-clause-torn g c =
    on_err_weaker c.write_synced-2.result (λ torn. inr (rw c.in_ok-write_synced.ensures.written at torn))
    c.write_synced-2.ensures.torn
