-- Going down, each place's product over the points before it is made its weight.
use Rattle.wal_code.proofs.Common.{◌≡◌, ◌∙◌, sym, ap, ℕ, List, ◌+◌, ◌-◌, ◌<◌, ◌≤◌, length, get_or, drop, refl, arith, bit_xor, drop_of_length-le, common_steps, times, element_at, product_of_all, coefficient}
use Rattle.wal_code.proofs.Differences.{product_of_all-drop}
use Rattle.wal_code.proofs.Points.{words_of}
use Rattle.wal_code.proofs.Words.{weight}
use Rattle.wal_code.proofs.weights.fill_weights.Goals as goal

pub loop-place-init : goal.loop-place-init
unfolding product_of_all
loop-place-init c = (
  let e : length c.args.known.now ≤ length c.args.known.now = omega arith in rw drop_of_length-le refl,
  c.fill_products_before.ensures,
  λ i h l. absurd (omega arith),
)

pub loop-place-preserved : goal.loop-place-preserved
loop-place-preserved c =
    let known : List ℕ = c.args.known.now in
    let w : ℕ = c.args.wanted in
    let p : ℕ = c.loop-place.place - 1 in
    let inside : p < length known = omega arith in
    let back : p + 1 ≡ c.loop-place.place = omega arith in
    let after : c.loop-place.after.0 ≡ product_of_all (drop (p + 1) known) w =
    c.loop-place.invariant.0 ∙ ap (λ (n : ℕ). product_of_all (drop n known) w) (sym back) in
    let value : c.mul-in-loop-place.result.0 ≡ coefficient known (get_or known p 0) w =
    c.mul-in-loop-place.ensures ∙ ap (λ (s : ℕ). times s (element_at c.args.scales.now p)) c.mul.ensures ∙
    weight known p w (element_at c.loop-place.weights p) c.loop-place.after.0 (element_at c.args.scales.now p)
    c.requires.distinct (words_of known (λ i l. omega (arith, c.type_inv.known i))) (omega arith) inside
    (c.loop-place.invariant.1 p (omega arith)) after (c.requires.made p inside) in (
      c.mul-after.ensures ∙ ap (λ (s : ℕ). times (bit_xor w (get_or known p 0)) s) after ∙ sym (product_of_all-drop known p w inside),
      grind (arith, common_steps, c.loop-place.invariant.1),
      grind (arith, common_steps, value, c.loop-place.invariant.2),
    )
