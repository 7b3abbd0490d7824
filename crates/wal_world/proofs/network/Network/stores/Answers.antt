use Rattle.wal_world.proofs.Common.{rules, ◌≡◌, ◌∙◌, true, false, refl, world_of}
use Rattle.wal_world.proofs.WriteSteps.{stores_is}
use Rattle.wal_world.proofs.network.Network.stores.Goals as goal

pub returns-then-holds_metadata : goal.returns-then-holds_metadata
returns-then-holds_metadata g c =
    let is : c.holds_metadata.result ≡ true = search rules in
    stores_is (world_of c.args.self.now) c.args.at c.args.shard _ _ _ c.args.write.now _ _ _ (search rules) c.shard-holder.ensures.contents c.id-id.ensures.value
    (c.view.ensures.value ∙ c.metadata.ensures.value) c.holds_metadata.ensures c.holds_slivers.ensures (rw is)

pub returns-else-holds_metadata : goal.returns-else-holds_metadata
returns-else-holds_metadata g c =
    let is : c.holds_metadata.result ≡ false = search rules in
    stores_is (world_of c.args.self.now) c.args.at c.args.shard _ _ _ c.args.write.now _ _ _ (search rules) c.shard-holder.ensures.contents c.id-id.ensures.value
    (c.view.ensures.value ∙ c.metadata.ensures.value) c.holds_metadata.ensures refl (rw is)
