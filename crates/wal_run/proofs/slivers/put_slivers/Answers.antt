use Rattle.wal_run.proofs.Common.{◌<◌, arith, Appends-trans, shard_count, flat_map-more, shard_text}
use Rattle.wal_run.proofs.Parts.{failed_within}
use Rattle.wal_run.proofs.ShardTexts.{flat_map-split}
use Rattle.wal_run.proofs.slivers.put_slivers.Goals as goal

pub returns-in_err-put_shard-clause-part : goal.returns-in_err-put_shard-clause-part
returns-in_err-put_shard-clause-part g c =
    let text = shard_text c.args.id.now.0 c.args.encoded.now.shape c.args.encoded.now.cells in
    let within : c.loop-shard.shard < shard_count c.args.encoded.now.shape.f = omega (arith, rw c.shape.ensures at c.n-count.ensures.value) in
    failed_within _ _ _ _ _ _ _ _ (flat_map-split text _ c.loop-shard.shard within) c.loop-shard.invariant.put c.in_err-put_shard.ensures.part

pub loop-shard-preserved : goal.loop-shard-preserved
loop-shard-preserved g c = record {
  put = rw flat_map-more (Appends-trans _ _ _ _ _ c.loop-shard.invariant.put c.in_ok-put_shard.ensures.whole);
  buffer = omega (arith, c.loop-shard.invariant.buffer, c.put_shard.ensures.buffer);
  later = omega (arith, c.loop-shard.invariant.later, c.put_shard.ensures.later);
}
