use Rattle.wal_kernel.proofs.Common.{◌*◌, ap, ◌∙◌, arith, times}
use Rattle.wal_kernel.proofs.Sums.{none_added, scaled_step, scaled_sum}
use Rattle.wal_kernel.proofs.plain.add_scaled.Goals as goal

pub loop-i-init : goal.loop-i-init
loop-i-init c = none_added _ _ (λ k. omega (arith, c.type_inv.dst k))

pub loop-i-preserved : goal.loop-i-preserved
loop-i-preserved c =
    scaled_step _ _ _ _ _ _ _ (c.mul.ensures ∙ ap (times c.args.c.0) c.word.ensures) c.add_word.ensures c.loop-i.invariant

pub returns : goal.returns
returns c = scaled_sum _ _ _ _ (2 * c.loop-i.i) (omega arith) c.loop-i.invariant
