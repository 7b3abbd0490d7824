use Rattle.wal_run.proofs.Common.{◌∙◌, Keeps-refl, finished, out_of_memory}
use Rattle.wal_run.proofs.Endings.{finishes_as}
use Rattle.wal_run.proofs.answer.refuse.Goals as goal

pub returns-in-Memory-clause-performs : goal.returns-in-Memory-clause-performs
returns-in-Memory-clause-performs g c = out_of_memory (Keeps-refl _)

pub returns-in-Ok-clause-performs : goal.returns-in-Ok-clause-performs
returns-in-Ok-clause-performs g c =
    finished c.status_of.result _ (finishes_as c.finish.ensures.finishes (λ text is. (c.in_default.not-Memory, c.status_of.ensures, is ∙ c.deref.ensures.value ∙ c.in-Ok.ensures)))

pub returns-in-Err-clause-performs : goal.returns-in-Err-clause-performs
returns-in-Err-clause-performs g c = out_of_memory (Keeps-refl _)
