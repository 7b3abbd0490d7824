-- The product over the points before a place, and with it the next.
use Rattle.wal_code.proofs.Common.{◌≡◌, ◌∙◌, sym, ap, ℕ, List, ◌+◌, get_or, take, refl, lit<, arith, bit_xor, common_steps, times, product_of_all}
use Rattle.wal_code.proofs.Differences.{product_of_all-take, product_of_all-lt}
use Rattle.wal_code.proofs.Points.{words_of}
use Rattle.wal_code.proofs.weights.fill_products_before.Goals as goal

pub loop-place-init : goal.loop-place-init
unfolding product_of_all
loop-place-init c = (lit< tt, refl, λ i h. absurd (omega arith))

pub loop-place-preserved : goal.loop-place-preserved
loop-place-preserved c =
    let known : List ℕ = c.args.known.now in
    let next : c.mul-before.result.0 ≡ product_of_all (take (c.loop-place.place + 1) known) c.args.wanted =
    c.mul-before.ensures ∙
    ap (λ (s : ℕ). times s (bit_xor c.args.wanted (get_or known c.loop-place.place 0))) c.loop-place.invariant.1 ∙
    sym (product_of_all-take known c.loop-place.place c.args.wanted
    (words_of known (λ i l. omega (arith, c.type_inv.known i))) (omega arith) c.loop-place-test.true) in (
      omega (arith, next, product_of_all-lt (take (c.loop-place.place + 1) known) c.args.wanted),
      next,
      grind (arith, common_steps, c.loop-place.invariant.1, c.loop-place.invariant.2),
    )
