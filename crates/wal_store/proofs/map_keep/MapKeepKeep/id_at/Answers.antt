use Rattle.wal_store.proofs.Common.{arith}
use Rattle.wal_store.proofs.StockLaws.{shows_of, shown_len, shown_keys, shown_kept}
use Rattle.wal_store.proofs.map_keep.MapKeepKeep.id_at.Goals as goal

pub key_at-requires : goal.key_at-requires
key_at-requires c = omega (arith, shown_len (shows_of c.self.invariant.0 c.self.view_is))

pub returns : goal.returns
returns c =
    let shows = shows_of c.self.invariant.0 c.self.view_is in
    record {
      value = cc (shown_keys shows, c.key_at.ensures);
      kept = shown_kept c.key_at.result c.args.place shows c.self.invariant.3 c.key_at.ensures;
    }
