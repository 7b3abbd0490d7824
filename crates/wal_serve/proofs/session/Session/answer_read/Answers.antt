use Rattle.wal_serve.proofs.Common.{refl, [], ◌∷◌, ◌++◌, length, parts_at, read_reply_of, room_of, done, reply_text}
use Rattle.wal_serve.proofs.AnswerLaws.{says_replied}
use Rattle.wal_serve.proofs.session.Session.answer_read.Goals as goal

pub returns-clause-answers : goal.returns-clause-answers
returns-clause-answers g c =
    let shard = c.args.self.now.shard.now in
    let payloads = read_reply_of c.args.id.now.0 shard.index (parts_at shard.contents c.args.id.now) in (
      payloads ++ reply_text (done (length payloads)) ∷ [],
      ((refl, refl), refl),
      says_replied _ c.index.result (room_of shard.f) c.args.out.now c.read_reply-count.new.out _ payloads c.read_reply-count.result c.done.result c.index.ensures.value c.done.ensures.value
          c.read_reply-count.ensures.reply c.read_reply-count.ensures.room c.requires.room c.write_reply.ensures.written c.write_reply.ensures.fits,
    )
