use Rattle.wal_run.proofs.Common.{inl, performed, unreadable, IsFault, ◌≡◌, ℕ, List}
use Rattle.wal_run.proofs.Endings.{performs_as}
use Rattle.wal_run.proofs.Says.{performs_refused}
use Rattle.wal_run.proofs.replay.replay_schedule.Goals as goal

pub returns-in-Ok-clause-does : goal.returns-in-Ok-clause-does
returns-in-Ok-clause-does g c = c.put_lines.ensures.does c.args.input.now c.in-Ok.ensures.read

pub returns-in-Err-clause-does : goal.returns-in-Err-clause-does
returns-in-Err-clause-does g c =
    let fault = λ (s : ℕ) (text : List ℕ). (s ≡ 8) × IsFault c.in-Err.error text in
    performed _ (performs_as (performs_refused _ fault c.refusal_of.ensures c.refuse.ensures.performs)
    (λ s text is. rw is.0 (unreadable text (inl (c.in-Err.error, c.in-Err.ensures.read, is.1)))))
