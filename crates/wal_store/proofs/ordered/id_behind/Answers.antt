use Rattle.wal_store.proofs.Common.{◌∙◌, sym, ids_of}
use Rattle.wal_store.proofs.StockLaws.{past_found, past_gap}
use Rattle.wal_store.proofs.ordered.id_behind.Goals as goal

pub returns-in-Ok : goal.returns-in-Ok
returns-in-Ok c = c.id_from.ensures ∙ sym (past_found (ids_of c.args.rows.now.items) c.args.id.now c.in-Ok.place c.requires c.in-Ok.ensures.found)

pub returns-in-Err : goal.returns-in-Err
returns-in-Err c = c.id_from-in-Err.ensures ∙ sym (past_gap (ids_of c.args.rows.now.items) c.args.id.now c.in-Err.place c.in-Err.ensures.gap)
