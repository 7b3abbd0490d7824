use Rattle.wal_store.proofs.Common.{◌≡◌, ◌<◌, Some, length, slice_get, arith, keys_of, entries_of}
use Rattle.wal_store.proofs.KeptLaws.{shows_rows, length-entries_of}
use Rattle.wal_store.proofs.TableLaws.{keys_of-entries_of}
use Rattle.wal_store.proofs.StockLaws.{id_at, shown_len, shown_keys, shown_kept}
use Rattle.wal_store.proofs.pool_keep.PoolKeepKeep.id_at.Goals as goal

pub row-requires : goal.row-requires
row-requires c =
    let shows = shows_rows c.self.invariant.0 c.self.view_is in
    omega (arith, length-entries_of c.self.inside.chains c.self.inside.rows.items, shown_len shows)

pub returns : goal.returns
returns c =
    let l = c.self.inside.chains in let rows = c.self.inside.rows.items in
    let shows = shows_rows c.self.invariant.0 c.self.view_is in
    let within : c.args.place < length rows = omega (arith, length-entries_of l rows, shown_len shows) in
    let key : slice_get (keys_of (entries_of l rows)) c.args.place ≡ Some c.row.result.now.id =
    cc (keys_of-entries_of l rows, id_at rows c.args.place c.row.result.now within, c.row.ensures) in
    record {
      value = cc (shown_keys shows);
      kept = shown_kept c.row.result.now.id c.args.place shows c.self.invariant.4 key;
    }
