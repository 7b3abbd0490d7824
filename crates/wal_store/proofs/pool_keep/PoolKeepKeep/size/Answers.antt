use Rattle.wal_store.proofs.KeptLaws.{shows_rows}
use Rattle.wal_store.proofs.StockLaws.{shown_held, shown_there}
use Rattle.wal_store.proofs.pool_keep.PoolKeepKeep.size.Goals as goal

pub returns-clause-value : goal.returns-clause-value
returns-clause-value c =
    cc (c.size_of.ensures.value, shown_held c.args.id.now c.args.part (shows_rows c.self.invariant.0 c.self.view_is))

pub returns-clause-there : goal.returns-clause-there
returns-clause-there c =
    shown_there c.args.id.now (shows_rows c.self.invariant.0 c.self.view_is) c.self.invariant.4
