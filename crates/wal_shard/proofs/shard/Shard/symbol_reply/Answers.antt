use Rattle.wal_shard.proofs.Common.{refl}
use Rattle.wal_shard.proofs.ReplyLaws.{writes_three}
use Rattle.wal_shard.proofs.shard.Shard.symbol_reply.Goals as goal

pub returns-clause-reply : goal.returns-clause-reply
returns-clause-reply g c =
    let r = c.reply_opening.ensures.reply in
    (_, (r.0, r.1, refl), writes_three _ _ _ _ _ _ _ _ _ _ _ c.reply_metadata.ensures.reply r.2 c.reply_proof.ensures.reply)
