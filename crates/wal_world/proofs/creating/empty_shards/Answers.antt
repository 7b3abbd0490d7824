use Rattle.wal_world.proofs.Common.{ap, ◌∙◌, StoreState, ShardState, no_entries}
use Rattle.wal_world.proofs.Turning.{one_more}
use Rattle.wal_world.proofs.creating.empty_shards.Goals as goal

pub loop-index-preserved : goal.loop-index-preserved
loop-index-preserved g c =
    let kept : StoreState → ShardState = λ k. record { f = c.args.f; index = c.loop-index.index; contents = no_entries; limit = k.limit } in
    one_more c.args.f (λ s. no_entries) c.loop-index.index c.loop-index.shards.items c.push.new.self.items c.create-in-loop-index.result c.loop-index.invariant
    (c.create-in-loop-index.ensures ∙ ap kept c.in_ok-keep.ensures) c.in_ok-push.ensures.items
