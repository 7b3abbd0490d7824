use Rattle.wal_words.proofs.Common.{[]}
use Rattle.wal_words.proofs.Rows.{four_values, five_values}
use Rattle.wal_words.proofs.task.task_of.Goals as goal

pub returns-in-len4-clause-none : goal.returns-in-len4-clause-none
returns-in-len4-clause-none c =
    rw (four_values (record { ref_ptr = (0, 0); now = [] }) c.args.values.now c.in-len4.len_at_least c.in-len4.len_below) c.quadruple_task.ensures.none

pub returns-in-len5-clause-none : goal.returns-in-len5-clause-none
returns-in-len5-clause-none c =
    rw (five_values (record { ref_ptr = (0, 0); now = [] }) c.args.values.now c.in-len5.len_at_least c.in-len5.len_below) c.quintuple_task.ensures.none
