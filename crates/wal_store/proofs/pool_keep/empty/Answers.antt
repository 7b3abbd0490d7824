use Rattle.wal_store.proofs.Common.{◌<◌, length, refl, arith, slice_get_read}
use Rattle.wal_store.proofs.KeptLaws.{first_gone}
use Rattle.wal_store.proofs.pool_keep.empty.Goals as goal

pub loop-rows-smaller : goal.loop-rows-smaller
loop-rows-smaller c =
    let rows = c.loop-rows.rows.items in
    let some : 0 < length rows = omega arith in
    let found = slice_get_read rows _ 0 c.row.result.now refl some c.row.ensures in
    let gone = first_gone c.loop-rows.chains c.drop_all.new.chains rows c.drop_all.new.rows.items c.row.result.now found c.drop_all.ensures.entries in
    omega (arith, gone)
