use Rattle.wal_shard.proofs.Common.{rules, ◌≡◌, ◌++◌, ◌∷◌, IsSome, [], length, unwrap_or, arith, spelled_metadata, parts_at, metadata_frame}
use Rattle.wal_shard.proofs.HeldLaws.{metadata_fits, metadata_between}
use Rattle.wal_shard.proofs.ReplyLaws.{writes_held, metadata_frame_is}
use Rattle.wal_shard.proofs.shard.Shard.reply_metadata.Goals as goal

pub held_kind-requires-clause-some : goal.held_kind-requires-clause-some
held_kind-requires-clause-some g c =
    omega (arith, metadata_between _ _ _ _ _ (c.sound.ensures.sound c.args.id.now) (search rules))

pub reply_held-requires-clause-room : goal.reply_held-requires-clause-room
reply_held-requires-clause-room g c =
    let size : c.in-Some.size ≡ length (unwrap_or (parts_at c.args.self.now.contents c.args.id.now).metadata []) = search rules in
    omega (arith, metadata_fits _ _ _ _ _ (c.sound.ensures.sound c.args.id.now) (search rules), c.requires.room)

pub returns-in-Some-clause-reply : goal.returns-in-Some-clause-reply
returns-in-Some-clause-reply g c =
    let p = parts_at c.args.self.now.contents c.args.id.now in
    let some : IsSome p.metadata = search rules in
    let frame = metadata_frame_is _ _ _ _ _ (c.sound.ensures.sound c.args.id.now) some in
    writes_held p.metadata (λ x. metadata_frame (spelled_metadata x)) c.args.self.now.index c.args.out.now _
    ((c.held_kind.result ∷ []) ++ unwrap_or p.metadata []) some (cc (c.held_kind.ensures, frame))
    c.reply_held.ensures.written

pub returns-in-Some-clause-room : goal.returns-in-Some-clause-room
returns-in-Some-clause-room g c =
    let size : c.in-Some.size ≡ length (unwrap_or (parts_at c.args.self.now.contents c.args.id.now).metadata []) = search rules in
    omega (arith, metadata_fits _ _ _ _ _ (c.sound.ensures.sound c.args.id.now) (search rules), c.reply_held.ensures.room)
