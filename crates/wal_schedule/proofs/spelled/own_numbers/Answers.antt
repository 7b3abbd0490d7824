use Rattle.wal_schedule.proofs.Common.{◌++◌, ◌∷◌, [], sym, ap, ◌∙◌}
use Rattle.wal_schedule.proofs.Drawing.{range_more}
use Rattle.wal_schedule.proofs.spelled.own_numbers.Goals as goal

pub loop-number-preserved : goal.loop-number-preserved
loop-number-preserved c =
    let number = c.loop-number.number in
    c.in_ok-push.ensures.items ∙ ap (λ numbers. numbers ++ number ∷ []) c.loop-number.invariant ∙ sym (range_more number)
