use Rattle.wal_shard.proofs.Common.{rules, ◌≡◌, [], length, unwrap_or, arith, Primary, parts_at}
use Rattle.wal_shard.proofs.HeldLaws.{sliver_fits}
use Rattle.wal_shard.proofs.shard.Shard.reply_primary.Goals as goal

pub reply_held-requires-clause-room : goal.reply_held-requires-clause-room
reply_held-requires-clause-room g c =
    let size : c.in-Some.size ≡ length (unwrap_or (parts_at c.args.self.now.contents c.args.id.now).primary []) = search rules in
    omega (arith, sliver_fits _ _ _ _ _ Primary (c.sound.ensures.sound c.args.id.now) (search rules), c.requires.room)

pub returns-in-Some-clause-room : goal.returns-in-Some-clause-room
returns-in-Some-clause-room g c =
    let size : c.in-Some.size ≡ length (unwrap_or (parts_at c.args.self.now.contents c.args.id.now).primary []) = search rules in
    omega (arith, sliver_fits _ _ _ _ _ Primary (c.sound.ensures.sound c.args.id.now) (search rules), c.reply_held.ensures.room)
