use Rattle.wal_shard.proofs.Soundness.{after_put}
use Rattle.wal_shard.proofs.shard.Shard.store.Goals as goal

pub invariant_of-self : goal.invariant_of-self
invariant_of-self g c =
    let s = c.self.inside in (
      c.self.invariant.0,
      after_put g.H.Hash32.digest s.f s.index (g.K.Keep.contents s.keep) (g.K.Keep.contents c.put.new.self) c.args.id.now c.args.part c.args.bytes.now
          c.put.result c.put.ensures.stored c.put.ensures.refused c.self.invariant.1 (rw (← c.self.view_is) at c.requires.sound),
    )
