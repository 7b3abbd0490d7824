use Rattle.wal_serve.proofs.Common.{refl, [], ◌∷◌, ◌++◌, length, room_of, done, reply_text}
use Rattle.wal_serve.proofs.AnswerLaws.{says_replied}
use Rattle.wal_serve.proofs.session.Session.answer_symbol.Goals as goal

pub returns-clause-answers : goal.returns-clause-answers
returns-clause-answers g c =
    let r = c.symbol_reply-count.ensures.reply in (
      r.0 ++ reply_text (done (length r.0)) ∷ [],
      (r.0, r.1, (refl, refl), refl),
      says_replied _ c.index.result (room_of c.args.self.now.shard.now.f) c.args.out.now c.symbol_reply-count.new.out _ r.0 c.symbol_reply-count.result c.done.result c.index.ensures.value c.done.ensures.value
          r.2 c.symbol_reply-count.ensures.room c.requires.room c.write_reply.ensures.written c.write_reply.ensures.fits,
    )
