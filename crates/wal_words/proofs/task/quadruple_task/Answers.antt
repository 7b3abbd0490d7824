use Rattle.wal_words.proofs.Common.{codes, rules, recover}
use Rattle.wal_words.proofs.Rows.{named_row}
use Rattle.wal_words.proofs.task.quadruple_task.Goals as goal

pub returns-clause-found : goal.returns-clause-found
returns-clause-found c =
    named_row _ (codes "recover") _ _ _ (search rules)
    (recover _ _ _ c.in_ok-id.id c.in_ok-axis.axis c.in_ok-index.index c.in_ok-id.ensures.found c.in_ok-axis.ensures.found c.in_ok-index.ensures.found)
