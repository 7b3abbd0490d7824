use Rattle.wal_shard.proofs.Common.{metadata_shown}
use Rattle.wal_shard.proofs.Sizes.{sliver_least, sliver_short}
use Rattle.wal_shard.proofs.KeepLaws.{kept_metadata_sound, kept_sliver_sound, kept_held}
use Rattle.wal_shard.proofs.shard.Shard.keep_sliver.Goals as goal

pub keep_part-requires-clause-sound : goal.keep_part-requires-clause-sound
keep_part-requires-clause-sound g c =
    let s = c.args.self.now in
    rw c.bytes.ensures.spelling
    (kept_metadata_sound g.H.Hash32.digest s.f s.index s.contents c.args.id.now (metadata_shown c.args.m) c.requires.commits c.requires.f c.sound.ensures.sound)

pub keep_part-requires-2-clause-some : goal.keep_part-requires-2-clause-some
keep_part-requires-2-clause-some g c =
    sliver_least g.H.Hash32.digest (metadata_shown c.args.m) c.args.axis _ c.args.bytes.now c.requires.holds

pub keep_part-requires-2-clause-most : goal.keep_part-requires-2-clause-most
keep_part-requires-2-clause-most g c =
    sliver_short g.H.Hash32.digest (metadata_shown c.args.m) c.args.axis _ c.args.bytes.now c.requires.commits.fit
    c.requires.holds

pub keep_part-requires-2-clause-sound : goal.keep_part-requires-2-clause-sound
keep_part-requires-2-clause-sound g c =
    let s = c.args.self.now in
    let m = metadata_shown c.args.m in
    let sound = kept_metadata_sound g.H.Hash32.digest s.f s.index s.contents c.args.id.now m c.requires.commits c.requires.f c.sound.ensures.sound in
    let has = kept_held s.contents c.args.id.now m c.requires.commits.fit c.requires.same in
    rw (c.keep_part.ensures.place, c.in_ok-keep_part.ensures.kept, c.bytes.ensures.spelling, c.sliver_part.ensures)
    (kept_sliver_sound g.H.Hash32.digest s.f s.index _ c.args.id.now m c.args.axis _ has c.requires.holds sound)
