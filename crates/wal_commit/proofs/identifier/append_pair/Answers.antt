use Rattle.wal_commit.proofs.LeafTables.{pair_appended}
use Rattle.wal_commit.proofs.identifier.append_pair.Goals as goal

pub returns : goal.returns
returns g c =
    λ e are.
    pair_appended g.H.Hash32.digest c.args.shape.now e _ _ _ c.row_root.result c.column_root.result c.args.shard c.held_column-held.result
    (c.row_root.ensures e are) (c.column_root.ensures e are) c.held_column-held.ensures.value
    c.in_ok-extend_from_slice.ensures.items c.in_ok-extend_from_slice-2.ensures.items
