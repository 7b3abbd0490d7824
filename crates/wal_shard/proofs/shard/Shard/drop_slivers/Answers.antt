use Rattle.wal_shard.proofs.Common.{rules, ◌≡◌, sym, subst, without_slivers, AreSound}
use Rattle.wal_shard.proofs.Soundness.{without_slivers_sound}
use Rattle.wal_shard.proofs.shard.Shard.drop_slivers.Goals as goal

pub invariant_of-self : goal.invariant_of-self
invariant_of-self g c =
    let s = c.self.inside in
    let old = g.K.Keep.contents s.keep in
    let now : g.K.Keep.contents c.drop_part-2.new.self ≡ without_slivers old c.args.id.now = search rules in
    (c.self.invariant.0, subst (AreSound g.H.Hash32.digest s.f s.index) (sym now) (without_slivers_sound g.H.Hash32.digest s.f s.index old c.args.id.now c.self.invariant.1))
