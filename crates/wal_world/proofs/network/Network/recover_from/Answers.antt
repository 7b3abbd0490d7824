use Rattle.wal_world.proofs.Common.{subst, AreKnown, side_of, held, world_of}
use Rattle.wal_world.specs.declared.knowing.Known.{Known}
use Rattle.wal_world.proofs.Recoveries.{absent_word}
use Rattle.wal_world.proofs.network.Network.recover_from.Goals as goal

pub returns-in-Absent-clause-word : goal.returns-in-Absent-clause-word
returns-in-Absent-clause-word g c =
    let w = world_of c.args.self.now in
    absent_word g.H.Hash32.digest w c.args.side c.args.shard c.args.axis c.args.id.now c.args.payloads.now
    (subst (λ (k : Known). AreKnown g.H.Hash32.digest c.args.id.now (held (side_of c.args.side w) c.args.shard c.args.id.now) c.args.payloads.now k) c.in-Absent.is c.in_ok-known.ensures)
