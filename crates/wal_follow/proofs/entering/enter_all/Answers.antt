use Rattle.std.proofs.Common.{List, [], ◌∷◌, ◌++◌, ap, ◌∙◌}
use Rattle.wal_follow.specs.declared.outcome.Outcome.{Outcome}
use Rattle.wal_follow.proofs.Entries.{entered_more, length_push}
use Rattle.wal_follow.proofs.entering.enter_all.Goals as goal

pub loop-item-preserved : goal.loop-item-preserved
loop-item-preserved c =
    let pushed = c.in_ok-push.ensures.items ∙ ap (λ (l : List Outcome). l ++ c.in_ok-outcome.outcome ∷ []) c.in_ok-reserve.ensures.items in
    record {
      told = entered_more _ _ _ _ _ _ _ _ _ c.loop-item.invariant.told c.loop-item-test.true c.item-item.is c.in_ok-outcome.ensures.entered pushed;
      fits = c.in_ok-outcome.ensures.fits;
      committee = c.in_ok-outcome.ensures.committee ∙ c.loop-item.invariant.committee;
      rows = c.in_ok-outcome.ensures.rows ∙ c.loop-item.invariant.rows;
      count = length_push _ _ _ _ c.loop-item.invariant.count pushed;
    }
