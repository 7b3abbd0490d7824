use Rattle.wal_tree.proofs.Common.{None, ap, length, sym, ◌∙◌, get_or_default}
use Rattle.wal_tree.proofs.Columns.{entry_within, level_has}
use Rattle.wal_tree.proofs.stacks.entry_at.Goals as goal

pub digest_at-requires : goal.digest_at-requires
digest_at-requires c =
    entry_within c.args.row c.args.rows _ c.requires.row
    (ap length c.deref.ensures.value ∙ level_has c.args.rows c.args.level c.args.levels.now c.in-Some.column c.requires.levels c.requires.level (get_or_default c.args.levels.now c.args.level None _ c.requires.level ∙ sym c.index-levels-level.is ∙ c.in-Some.is))
