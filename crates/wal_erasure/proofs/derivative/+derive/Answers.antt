use Rattle.wal_erasure.proofs.Common.{◌≡◌, ◌^◌, ◌<◌, List, ◌++◌, length, ℕ, rules, arith, ap, ◌∙◌, word_at, word_at-zeros}
use Rattle.wal_fft.proofs.Blocks.{whole_long, half_long}
use Rattle.wal_erasure.proofs.Derived.{derived_none, derived_level}
use Rattle.wal_erasure.proofs.derivative.+derive.Goals as goal

pub returns-then-level-eq0 : goal.returns-then-level-eq0
returns-then-level-eq0 t c =
    derived_none c.args.width c.args.level c.args.buffer.now c.fill.new.self c.if-level-eq0.true
    (λ p. ap (λ (xs : List ℕ). word_at xs p) (c.fill.ensures.after (λ y e. e)) ∙ word_at-zeros (length c.args.buffer.now) p)

pub overflow_mul-points-2 : goal.overflow_mul-points-2
overflow_mul-points-2 t c =
    let fits : length c.args.buffer.now < 2 ^ 63 = search rules in
    omega (arith, whole_long _ _ _ _ (omega arith) c.half-points.ensures c.requires.long)

pub split_at_mut-low-requires : goal.split_at_mut-low-requires
split_at_mut-low-requires t c = omega (arith, whole_long _ _ _ _ (omega arith) c.half-points.ensures c.requires.long)

pub derive-requires : goal.derive-requires
derive-requires t c =
    omega (arith, half_long _ _ c.args.width c.half-points.ensures, c.requires.few, c.decreases, c.split_at_mut-low.ensures)

pub derive-requires-2 : goal.derive-requires-2
derive-requires-2 t c =
    let whole = whole_long _ _ _ _ (omega arith) c.half-points.ensures c.requires.long in
    omega (arith, half_long _ _ c.args.width c.half-points.ensures, c.requires.few, c.decreases, c.split_at_mut-low.ensures)

pub returns : goal.returns
returns t c =
    let both : c.split_at_mut-low.result.0.now ++ c.split_at_mut-low.result.1.now ≡ c.args.buffer.now = search rules in
    let whole = whole_long _ _ _ _ (omega arith) c.half-points.ensures c.requires.long in
    let half = half_long _ _ c.args.width c.half-points.ensures in
    rw (← both)
    (derived_level {low_derived = c.derive.new.buffer} {low_sum = c.add_product.new.target} {high_derived = c.derive-2.new.buffer} (omega arith)
    record {
      few = let most = c.requires.few in omega arith;
      bytes = λ k. let b = c.type_inv.buffer k in search rules;
      halves = omega (arith, c.split_at_mut-low.ensures);
      derived_long = omega (arith, c.split_at_mut-low.ensures, c.derive.auto.buffer);
      new_halves = omega (arith, c.split_at_mut-low.ensures, c.derive.auto.buffer, c.add_product.ensures.long, c.derive-2.auto.buffer);
      in_low = c.derive.ensures;
      to_low = rw c.rate.ensures at c.add_product.ensures;
      in_high = c.derive-2.ensures;
    })
