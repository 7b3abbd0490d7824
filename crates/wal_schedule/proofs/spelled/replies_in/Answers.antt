use Rattle.wal_schedule.proofs.Common.{refl, ◌∙◌, sym, ap, replies_of, reply_of, Some}
use Rattle.wal_schedule.proofs.Elements.{read_all, read_more}
use Rattle.wal_schedule.proofs.spelled.replies_in.Goals as goal

pub loop-item-preserved : goal.loop-item-preserved
loop-item-preserved c =
    read_more reply_of replies_of (λ d ds. refl) c.args.items.now c.loop-item.item-index c.item-item.result c.in_ok-reply.reply c.loop-item.replies.items _
    c.loop-item-test.true c.item-item.is c.loop-item.invariant c.in_ok-reply.ensures c.in_ok-push.ensures.items

pub returns : goal.returns
returns c =
    read_all replies_of refl c.args.items.now c.loop-item.item-index c.loop-item.replies.items c.loop-item-test.false c.loop-item.invariant ∙ ap Some (sym c.from_vec.ensures)
