use Rattle.wal_run.proofs.Common.{◌∙◌, finished}
use Rattle.wal_run.proofs.Endings.{finishes_as}
use Rattle.wal_run.proofs.answer.write_answer.Goals as goal

pub returns-in-Ok-clause-performs : goal.returns-in-Ok-clause-performs
returns-in-Ok-clause-performs g c =
    rw c.in-Ok.is (finished c.answer_status.result _ (finishes_as c.finish.ensures.finishes (λ text is. (c.answer_status.ensures, is ∙ c.answer_text.ensures))))

pub returns-in-Err-clause-performs : goal.returns-in-Err-clause-performs
returns-in-Err-clause-performs g c = rw c.in-Err.is c.refuse.ensures.performs
