use Rattle.wal_store.proofs.StockLaws.{shows_of, shown_held, shown_there}
use Rattle.wal_store.proofs.map_keep.MapKeepKeep.size.Goals as goal

pub returns-clause-value : goal.returns-clause-value
returns-clause-value c =
    cc (shown_held c.args.id.now c.args.part (shows_of c.self.invariant.0 c.self.view_is), c.size_under.ensures.value)

pub returns-clause-there : goal.returns-clause-there
returns-clause-there c =
    shown_there c.args.id.now (shows_of c.self.invariant.0 c.self.view_is) c.self.invariant.3
