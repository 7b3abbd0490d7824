use Rattle.wal_store.proofs.Common.{◌∙◌, Option, filter, slice_get, sym, ap, BlobId, is_past, ids_of}
use Rattle.wal_store.proofs.StockLaws.{past_none}
use Rattle.wal_store.proofs.ordered.id_past.Goals as goal

pub returns-in-None : goal.returns-in-None
returns-in-None c = c.id_from.ensures ∙ sym (past_none (ids_of c.args.rows.now.items))
    ∙ ap (λ (l : Option BlobId). slice_get (filter (is_past l) (ids_of c.args.rows.now.items)) 0) (sym c.in-None.is)
