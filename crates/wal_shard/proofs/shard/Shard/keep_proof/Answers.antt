use Rattle.wal_shard.proofs.Common.{ap, length, arith, metadata_shown, proof_shown}
use Rattle.wal_shard.proofs.Sizes.{proof_some, proof_short}
use Rattle.wal_shard.proofs.KeepLaws.{kept_metadata_sound, kept_proof_sound, kept_held}
use Rattle.wal_shard.proofs.shard.Shard.keep_proof.Goals as goal

pub keep_part-requires-clause-sound : goal.keep_part-requires-clause-sound
keep_part-requires-clause-sound g c =
    let s = c.args.self.now in
    rw c.bytes.ensures.spelling
    (kept_metadata_sound g.H.Hash32.digest s.f s.index s.contents c.args.id.now (metadata_shown c.args.m) c.requires.commits c.requires.f c.sound.ensures.sound)

pub keep_part-requires-2-clause-some : goal.keep_part-requires-2-clause-some
keep_part-requires-2-clause-some g c = omega (arith, proof_some (proof_shown c.args.p.now), ap length c.bytes-2.ensures)

pub keep_part-requires-2-clause-most : goal.keep_part-requires-2-clause-most
keep_part-requires-2-clause-most g c =
    let short =
    proof_short g.H.Hash32.digest (metadata_shown c.args.m)
    (proof_shown c.args.p.now) c.requires.commits.fit c.requires.bad c.requires.fit in
    omega (arith, short, ap length c.bytes-2.ensures)

pub keep_part-requires-2-clause-sound : goal.keep_part-requires-2-clause-sound
keep_part-requires-2-clause-sound g c =
    let s = c.args.self.now in
    let m = metadata_shown c.args.m in
    let sound = kept_metadata_sound g.H.Hash32.digest s.f s.index s.contents c.args.id.now m c.requires.commits c.requires.f c.sound.ensures.sound in
    let has = kept_held s.contents c.args.id.now m c.requires.commits.fit c.requires.same in
    rw (c.keep_part.ensures.place, c.in_ok-keep_part.ensures.kept, c.bytes.ensures.spelling, c.bytes-2.ensures)
    (kept_proof_sound g.H.Hash32.digest s.f s.index _ c.args.id.now m _ has c.requires.bad c.requires.fit sound)
