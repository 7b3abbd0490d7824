use Rattle.wal_schedule.proofs.Drawing.{if_sample}
use Rattle.wal_schedule.proofs.SampleRange.{if_in_range}
use Rattle.wal_schedule.proofs.drawn.sample.Goals as goal

pub returns-clause-sample : goal.returns-clause-sample
returns-clause-sample g c =
    if_sample g.H.Hash32.digest c.sample_with.result c.args.number _ _ _ _ c.shard-first.result c.shard-later.result
    c.shard-leaving.result c.in_ok-blobs.blobs.items c.deref.result.now
    c.shard-first.ensures.state c.shard-first.ensures.value c.in_ok-blobs.ensures.blobs c.in_ok-blobs.ensures.state
    c.shard-later.ensures.state c.shard-later.ensures.value c.shard-leaving.ensures.state c.shard-leaving.ensures.value
    c.deref.ensures.value c.sample_with.ensures

pub returns-clause-range : goal.returns-clause-range
returns-clause-range g c =
    if_in_range g.H.Hash32.digest c.sample_with.result _ c.shard-first.result c.shard-later.result c.shard-leaving.result
    c.in_ok-blobs.blobs.items c.deref.result.now c.shard-first.ensures.below c.shard-later.ensures.below
    c.shard-leaving.ensures.below c.in_ok-blobs.ensures.blobs c.deref.ensures.value c.sample_with.ensures
