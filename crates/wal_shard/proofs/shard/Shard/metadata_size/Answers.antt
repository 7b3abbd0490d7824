use Rattle.wal_shard.proofs.Common.{arith}
use Rattle.wal_shard.proofs.HeldLaws.{metadata_between}
use Rattle.wal_shard.proofs.shard.Shard.metadata_size.Goals as goal

pub returns-clause-most : goal.returns-clause-most
returns-clause-most g c =
    omega (arith, metadata_between _ _ _ _ _ (c.sound.ensures.sound c.args.id.now) c.requires.held, c.part_size.ensures)
