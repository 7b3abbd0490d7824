use Rattle.wal_schedule.proofs.Common.{refl, ◌∙◌, sym, ap, numbers_of, whole_of, Some}
use Rattle.wal_schedule.proofs.Elements.{read_all, read_more}
use Rattle.wal_schedule.proofs.field.numbers_in.Goals as goal

pub loop-item-preserved : goal.loop-item-preserved
loop-item-preserved c =
    read_more (whole_of 65535) numbers_of (λ d ds. refl) c.args.items.now c.loop-item.item-index c.item-item.result c.in_ok-number.number c.loop-item.numbers.items _
    c.loop-item-test.true c.item-item.is c.loop-item.invariant c.in_ok-number.ensures c.in_ok-push.ensures.items

pub returns : goal.returns
returns c =
    read_all numbers_of refl c.args.items.now c.loop-item.item-index c.loop-item.numbers.items c.loop-item-test.false c.loop-item.invariant ∙ ap Some (sym c.from_vec.ensures)
