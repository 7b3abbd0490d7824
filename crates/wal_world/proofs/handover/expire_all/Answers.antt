use Rattle.wal_world.proofs.Common.{dropped}
use Rattle.std.proofs.lemmas.List.Edits.{map_over_more}
use Rattle.wal_world.proofs.handover.expire_all.Goals as goal

pub loop-place-preserved : goal.loop-place-preserved
loop-place-preserved g c =
    let more = map_over_more (dropped c.args.ledger.now.log) c.args.shards.now c.loop-place.shards c.loop-place.place c.index-shards-place.result c.loop-place-test.true c.loop-place.invariant c.index-shards-place.is in
    cc (more, c.expire.ensures, c.index-shards-place.is)
