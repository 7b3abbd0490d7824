use Rattle.wal_store.proofs.Common.{◌∙◌}
use Rattle.wal_store.proofs.KeptLaws.{shows_rows}
use Rattle.wal_store.proofs.TableLaws.{keys_of-entries_of}
use Rattle.wal_store.proofs.StockLaws.{shown_next, next_kept}
use Rattle.wal_store.proofs.pool_keep.PoolKeepKeep.next_id.Goals as goal

pub returns : goal.returns
returns c =
    let l = c.self.inside.chains in let rows = c.self.inside.rows.items in
    let shows = shows_rows c.self.invariant.0 c.self.view_is in
    let is = rw (← keys_of-entries_of l rows) at c.id_past.ensures in
    record {
      value = is ∙ shown_next c.args.last shows;
      kept = next_kept c.args.last c.id_past.result shows c.self.invariant.4 is;
    }
