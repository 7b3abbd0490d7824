use Rattle.wal_store.proofs.Common.{IsSome, subst}
use Rattle.wal_store.proofs.KeptLaws.{shows_rows}
use Rattle.wal_store.proofs.StockLaws.{shown_held}
use Rattle.wal_store.proofs.pool_keep.PoolKeepKeep.copy.Goals as goal

pub copy_part-requires-clause-held : goal.copy_part-requires-clause-held
copy_part-requires-clause-held c =
    subst IsSome (shown_held c.args.id.now c.args.part (shows_rows c.self.invariant.0 c.self.view_is)) c.requires.held

pub copy_part-requires-clause-range : goal.copy_part-requires-clause-range
copy_part-requires-clause-range c =
    rw (shown_held c.args.id.now c.args.part (shows_rows c.self.invariant.0 c.self.view_is)) at c.requires.range

pub returns : goal.returns
returns c =
    cc (c.copy_part.ensures, shown_held c.args.id.now c.args.part (shows_rows c.self.invariant.0 c.self.view_is))
