use Rattle.wal_shard.proofs.Common.{rules, ◌≡◌, None, part_at}
use Rattle.wal_shard.proofs.KeepLaws.{after_keep}
use Rattle.wal_shard.proofs.shard.Shard.keep_part.Goals as goal

pub invariant_of-self : goal.invariant_of-self
invariant_of-self g c =
    let s = c.self.inside in
    let is = c.self.view_is in
    let none : part_at c.args.self.now.contents c.args.id.now c.args.part ≡ None = search rules in (
      c.self.invariant.0,
      after_keep g.H.Hash32.digest s.f s.index (g.K.Keep.contents s.keep) (g.K.Keep.contents c.put.new.self) c.args.id.now c.args.part c.args.bytes.now
          c.put.result (rw (← is) at none) c.put.ensures.stored c.put.ensures.refused c.self.invariant.1 (rw (← is) at c.requires.sound),
    )
