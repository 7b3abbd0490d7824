use Rattle.wal_shard.proofs.Soundness.{empty_sound}
use Rattle.wal_shard.proofs.shard.Shard.create.Goals as goal

pub invariant_of-result : goal.invariant_of-result
invariant_of-result g c = (
  (c.requires.some, c.requires.few, c.requires.index),
  rw c.requires.empty (empty_sound g.H.Hash32.digest c.args.f c.args.index),
)
