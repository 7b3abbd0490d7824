use Rattle.wal_run.proofs.Common.{Keeps-refl, no_memory_for_words, usage}
use Rattle.wal_run.proofs.Endings.{ends_finished}
use Rattle.wal_run.proofs.Tasks.{in_range}
use Rattle.wal_run.proofs.top.answer.Goals as goal

pub answer_task-requires : goal.answer_task-requires
answer_task-requires g c = record { range = in_range _ c.in-Ok-Some.task (rw c.in-Ok-Some.field-0-is at c.in-Ok-Some.ensures.found) }

pub returns-in-Ok-None-clause-ends : goal.returns-in-Ok-None-clause-ends
returns-in-Ok-None-clause-ends g c =
    let none = rw c.in-Ok-None.field-0-is at c.in-Ok-None.ensures.none in
    ends_finished _ _ _ _ 2 _ (λ text is. rw is (usage none (Keeps-refl _))) c.finish.ensures.finishes

pub returns-in-Err-clause-ends : goal.returns-in-Err-clause-ends
returns-in-Err-clause-ends g c = no_memory_for_words (Keeps-refl _) (Keeps-refl _)
