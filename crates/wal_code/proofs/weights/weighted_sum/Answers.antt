-- Each place adds its weight times its value.
use Rattle.wal_code.proofs.Common.{◌∙◌, sym, ap₂, ℕ, bit_xor, refl, slice_index, times, xor_below, element_at}
use Rattle.wal_code.proofs.Totals.{xor_below-more}
use Rattle.wal_code.proofs.weights.weighted_sum.Goals as goal

pub loop-place-init : goal.loop-place-init
unfolding xor_below
loop-place-init c = refl

pub loop-place-preserved : goal.loop-place-preserved
loop-place-preserved c =
    ap₂ (λ (s t : ℕ). bit_xor s t) c.loop-place.invariant c.mul-sum.ensures ∙
    sym (xor_below-more c.loop-place.place (λ i. times (element_at c.args.weights.now i) (slice_index c.args.values.now i)))
