use Rattle.wal_store.proofs.Common.{◌∙◌, ap, option_map, from_sorted, Budget, id_cmp}
use Rattle.wal_store.proofs.EntriesLaws.{empty_view}
use Rattle.wal_store.proofs.StockLaws.{store_is, unused_limit}
use Rattle.wal_store.proofs.map_keep.MapKeep.create.Goals as goal

pub returns : goal.returns
returns c = store_is _ _ _ _
    (ap (from_sorted {R = id_cmp}) c.new.ensures.empty ∙ empty_view id_cmp)
    (ap (option_map {T = Budget} (λ b. b.limit)) c.unused.ensures ∙ unused_limit c.args.limit)
