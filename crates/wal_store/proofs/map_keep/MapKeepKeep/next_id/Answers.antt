use Rattle.wal_store.proofs.Common.{◌∙◌}
use Rattle.wal_store.proofs.StockLaws.{shows_of, shown_next, next_kept}
use Rattle.wal_store.proofs.map_keep.MapKeepKeep.next_id.Goals as goal

pub returns : goal.returns
returns c =
    let shows = shows_of c.self.invariant.0 c.self.view_is in
    record {
      value = c.key_past.ensures ∙ shown_next c.args.last shows;
      kept = next_kept c.args.last c.key_past.result shows c.self.invariant.3 c.key_past.ensures;
    }
