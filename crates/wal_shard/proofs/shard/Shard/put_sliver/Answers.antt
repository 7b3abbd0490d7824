use Rattle.wal_shard.proofs.Common.{rules, parts_at, Sliver, Verifies}
use Rattle.wal_shard.proofs.Sizes.{sliver_least}
use Rattle.wal_shard.proofs.HeldLaws.{sliver_then, verified_short}
use Rattle.wal_shard.proofs.shard.Shard.put_sliver.Goals as goal

pub store-requires-clause-some : goal.store-requires-clause-some
store-requires-clause-some g c =
    let s = c.args.self.now in
    let x = c.args.sliver.now in
    let v : Verifies g.H.Hash32.digest s.f s.index (parts_at s.contents c.args.id.now) (Sliver c.args.id.now.0 x.axis x.index x.bytes.now) = search rules in
    sliver_least g.H.Hash32.digest v.0 x.axis x.index x.bytes.now v.3

pub store-requires-clause-most : goal.store-requires-clause-most
store-requires-clause-most g c =
    let s = c.args.self.now in
    let x = c.args.sliver.now in
    verified_short g.H.Hash32.digest s.f s.index c.args.id.now.0
    (parts_at s.contents c.args.id.now) x.axis x.index x.bytes.now (search rules)

pub store-requires-clause-sound : goal.store-requires-clause-sound
store-requires-clause-sound g c =
    let s = c.args.self.now in
    let x = c.args.sliver.now in
    rw c.sliver_part-part.ensures
    (sliver_then g.H.Hash32.digest s.f s.index c.args.id.now.0 _ x.axis x.index x.bytes.now (search rules)
    (c.sound.ensures.sound c.args.id.now))
