use Rattle.wal_words.proofs.Common.{refl, found_of}
use Rattle.wal_words.proofs.Rows.{none_asked, moved_values}
use Rattle.wal_words.proofs.task.task_in.Goals as goal

pub returns-clause-none : goal.returns-clause-none
returns-clause-none c =
    none_asked (found_of c.args.matches.now) c.in_ok-options.options _ _ c.in_ok-options.ensures.found
    (moved_values _ _ c.get_strs.result _ c.unwrap_or-values.ensures c.get_strs.ensures refl) c.task_of.ensures.none
