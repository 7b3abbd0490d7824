use Rattle.wal_run.proofs.Common.{subst, refl, Keeps-refl, IsTask}
use Rattle.wal_run.proofs.Endings.{ends_performed}
use Rattle.wal_run.proofs.Says.{performs_said}
use Rattle.wal_run.proofs.top.answer_task.Goals as goal

pub returns-in-Whole-clause-ends : goal.returns-in-Whole-clause-ends
returns-in-Whole-clause-ends g c = λ words asked.
    c.answer_input.ensures.ends words (subst (IsTask words) c.in-Whole.is asked)

pub returns-in-Read-clause-ends : goal.returns-in-Read-clause-ends
returns-in-Read-clause-ends g c = λ words asked.
    c.read_stream.ensures.ends words (subst (IsTask words) c.in-Read.is asked)

pub returns-in-Serve-clause-ends : goal.returns-in-Serve-clause-ends
returns-in-Serve-clause-ends g c = λ words asked.
    c.serve_shard.ensures.ends words (subst (IsTask words) c.in-Serve.is asked)

pub returns-in-Sample-clause-ends : goal.returns-in-Sample-clause-ends
returns-in-Sample-clause-ends g c = λ words asked.
    ends_performed _ words _ _ _ _ (subst (IsTask words) c.in-Sample.is asked) (Keeps-refl _, refl) (performs_said _ _ c.sum_up.ensures c.write_answer.ensures.performs)
