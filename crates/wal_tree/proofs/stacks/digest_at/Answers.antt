use Rattle.wal_tree.proofs.Common.{ap, length, sym, ◌∙◌}
use Rattle.wal_tree.proofs.Columns.{entry_long}
use Rattle.wal_tree.proofs.stacks.digest_at.Goals as goal

pub copy_from_slice-requires : goal.copy_from_slice-requires
copy_from_slice-requires c = sym (ap length c.piece_at.ensures ∙ entry_long c.args.row c.args.column.now c.requires)
