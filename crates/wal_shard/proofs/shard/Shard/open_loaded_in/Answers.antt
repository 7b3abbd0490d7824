use Rattle.wal_shard.proofs.Common.{◌≡◌, ◌<◌, ap, ◌∙◌, arith, metadata_shown, shard_count, crossing, held_index, given, ShardState}
use Rattle.wal_shard.proofs.ReplyLaws.{own_opening_fits}
use Rattle.wal_shard.proofs.shard.Shard.open_loaded_in.Goals as goal

pub put_opening-requires-clause-sliver : goal.put_opening-requires-clause-sliver
put_opening-requires-clause-sliver g c =
    let m = metadata_shown c.held_metadata-m.result in
    let axis = crossing c.args.axis in
    let cross : c.held-cross.result ≡ held_index m.format m.f axis c.args.self.now.index = c.held-cross.ensures.value
    ∙ ap (λ a. held_index m.format m.f a c.self.inside.index) c.crossing.ensures ∙ ap (λ (x : ShardState). held_index m.format m.f axis x.index) c.self.view_is in
    let sound = c.sound.ensures.sound c.args.id.now in
    rw cross (sound.slivers axis m c.args.work.now.loaded c.held_metadata-m.ensures.held c.requires.loaded)

pub put_opening-requires-clause-room : goal.put_opening-requires-clause-room
put_opening-requires-clause-room g c =
    omega (arith, own_opening_fits _ _ _ _ _ c.held_metadata-m.ensures, c.requires.room)

pub returns-clause-reply : goal.returns-clause-reply
returns-clause-reply g c =
    let m = metadata_shown c.held_metadata-m.result in
    let own = c.held_metadata-m.ensures in
    let o = c.put_opening.ensures.opening in
    let index : c.args.index < shard_count m.f = omega (arith, c.requires.index, own.faults) in
    let axis = crossing c.args.axis in
    let cross : c.held-cross.result ≡ held_index m.format m.f axis c.args.self.now.index = c.held-cross.ensures.value
    ∙ ap (λ a. held_index m.format m.f a c.self.inside.index) c.crossing.ensures ∙ ap (λ (x : ShardState). held_index m.format m.f axis x.index) c.self.view_is in
    let place = ap (λ (x : ShardState). x.index) c.self.view_is in
    (_, given m c.args.work.now.loaded o.0 own.held c.requires.loaded index (o.1 ∙ cross) o.2, rw (← place) o.3)

pub returns-clause-room : goal.returns-clause-room
returns-clause-room g c =
    omega (arith, own_opening_fits _ _ _ _ _ c.held_metadata-m.ensures, c.put_opening.ensures.room)
