use Rattle.wal_shard.proofs.Soundness.{without_dead_sound}
use Rattle.wal_shard.proofs.shard.Shard.expire.Goals as goal

pub invariant_of-self : goal.invariant_of-self
invariant_of-self g c =
    let s = c.self.inside in (
      c.self.invariant.0,
      rw c.retain.ensures.retained
          (without_dead_sound g.H.Hash32.digest s.f s.index c.args.ledger.now.log (g.K.Keep.contents s.keep) c.self.invariant.1),
    )
