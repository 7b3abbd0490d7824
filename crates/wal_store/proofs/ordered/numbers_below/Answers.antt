use Rattle.wal_store.proofs.Common.{◌∙◌, [], ◌∷◌, ◌++◌, ap, sym, arith}
use Rattle.wal_store.proofs.OrderedLaws.{range_more}
use Rattle.wal_store.proofs.ordered.numbers_below.Goals as goal

pub loop-number-preserved : goal.loop-number-preserved
loop-number-preserved c = (
  c.in-Ok.ensures.items ∙ ap (λ ks. ks ++ c.loop-number.number ∷ []) c.loop-number.invariant.0 ∙ sym (range_more 0 c.loop-number.number c.loop-number.number (omega arith)),
  omega (arith, c.in-Ok.ensures.len, c.loop-number.invariant.1),
  omega (arith, c.in-Ok.ensures.capacity, c.loop-number.invariant.2),
)
