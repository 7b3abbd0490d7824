use Rattle.wal_fft.proofs.Common.{◌≡◌, ◌-◌, ◌*◌, ◌^◌, ◌<◌, ◌++◌, length, ℕ, rules, arith, ◌∙◌, ap, refl, skew, lane}
use Rattle.wal_fft.proofs.Blocks.{halved}
use Rattle.wal_fft.proofs.Steps.{one_point, restored_lower, restored_both, turned}
use Rattle.wal_fft.proofs.transform.+restore.Goals as goal

pub returns-then-level-eq0 : goal.returns-then-level-eq0
returns-then-level-eq0 t c =
    let most = c.requires.known in
    record {
      values = λ w l i below. one_point (lane c.args.width c.args.buffer.now w) _ c.if-level-eq0.true (omega arith);
      others = λ w l i above within. refl;
    }

pub overflow_mul-index-2 : goal.overflow_mul-index-2
overflow_mul-index-2 t c = omega (arith, halved (omega arith) c.half-points.ensures c.requires.long c.requires.points)

pub skew-factor-requires-clause-point : goal.skew-factor-requires-clause-point
skew-factor-requires-clause-point t c = omega (arith, halved (omega arith) c.half-points.ensures c.requires.long c.requires.points)

pub overflow_mul-points-2 : goal.overflow_mul-points-2
overflow_mul-points-2 t c =
    let fits : length c.args.buffer.now < 2 ^ 63 = search rules in
    omega (arith, halved (omega arith) c.half-points.ensures c.requires.long c.requires.points)

pub split_at_mut-low-requires : goal.split_at_mut-low-requires
split_at_mut-low-requires t c = omega (arith, halved (omega arith) c.half-points.ensures c.requires.long c.requires.points)

pub add_product-requires-clause-equal : goal.add_product-requires-clause-equal
add_product-requires-clause-equal t c =
    omega (arith, c.split_at_mut-low.ensures, halved (omega arith) c.half-points.ensures c.requires.long c.requires.points)

pub restore-requires : goal.restore-requires
restore-requires t c =
    let halves = halved (omega arith) c.half-points.ensures c.requires.long c.requires.points in
    omega (arith, c.decreases, c.split_at_mut-low.ensures, c.add_product.ensures.long, c.if-known-points.true)

pub add_product-requires-then-known-points-clause-equal : goal.add_product-requires-then-known-points-clause-equal
add_product-requires-then-known-points-clause-equal t c =
    let halves = halved (omega arith) c.half-points.ensures c.requires.long c.requires.points in
    omega (arith, c.split_at_mut-low.ensures, c.add_product.ensures.long, c.restore.auto.buffer)

pub restore-requires-else-known-points : goal.restore-requires-else-known-points
restore-requires-else-known-points t c =
    let halves = halved (omega arith) c.half-points.ensures c.requires.long c.requires.points in
    omega (arith, c.decreases, c.split_at_mut-low.ensures)

pub add_words-requires-clause-equal : goal.add_words-requires-clause-equal
add_words-requires-clause-equal t c =
    let halves = halved (omega arith) c.half-points.ensures c.requires.long c.requires.points in
    omega (arith, c.split_at_mut-low.ensures, c.restore-else-known-points.auto.buffer)

pub restore-requires-else-known-points-2 : goal.restore-requires-else-known-points-2
restore-requires-else-known-points-2 t c =
    let halves = halved (omega arith) c.half-points.ensures c.requires.long c.requires.points in
    omega (arith, c.decreases, c.split_at_mut-low.ensures, c.add_words.ensures.long, c.requires.known)

pub add_words-requires-else-known-points-clause-equal : goal.add_words-requires-else-known-points-clause-equal
add_words-requires-else-known-points-clause-equal t c =
    let halves = halved (omega arith) c.half-points.ensures c.requires.long c.requires.points in
    omega (
      arith,
      c.split_at_mut-low.ensures,
      c.restore-else-known-points.auto.buffer,
      c.add_words.ensures.long,
      c.restore-else-known-points-2.auto.buffer,
    )

pub add_product-requires-else-known-points-clause-equal : goal.add_product-requires-else-known-points-clause-equal
add_product-requires-else-known-points-clause-equal t c =
    let halves = halved (omega arith) c.half-points.ensures c.requires.long c.requires.points in
    omega (
      arith,
      c.split_at_mut-low.ensures,
      c.restore-else-known-points.auto.buffer,
      c.add_words.ensures.long,
      c.restore-else-known-points-2.auto.buffer,
      c.add_words-else-known-points.ensures.long,
    )

pub returns-then-known-points : goal.returns-then-known-points
returns-then-known-points t c =
    let halves = halved (omega arith) c.half-points.ensures c.requires.long c.requires.points in
    let both : c.split_at_mut-low.result.0.now ++ c.split_at_mut-low.result.1.now ≡ c.args.buffer.now = search rules in
    let factor : c.skew-factor.result.0 ≡ skew (c.args.level - 1) (2 * c.args.index * 2 ^ (c.args.level - 1)) =
    c.skew-factor.ensures ∙ ap (λ (p : ℕ). skew (c.args.level - 1) (2 * c.args.index * p)) c.half-points.ensures in
    rw (← both)
    (restored_lower {low_sum = c.add_product.new.target} {low_coeffs = c.restore.new.buffer} (omega arith) record {
      lower = omega (arith, c.if-known-points.true);
      halves = omega (arith, c.split_at_mut-low.ensures);
      to_low = rw factor at c.add_product.ensures;
      in_low = c.restore.ensures;
      sums = record {
        few = let most = c.requires.few in omega arith;
        bytes = λ i. let b = c.type_inv.buffer i in search rules;
        halves = omega (arith, c.split_at_mut-low.ensures, c.add_product.ensures.long, c.restore.auto.buffer, c.add_product-then-known-points.ensures.long);
        to_low = turned (rw factor at c.add_product-then-known-points.ensures);
      };
    })

pub returns-else-known-points : goal.returns-else-known-points
returns-else-known-points t c =
    let halves = halved (omega arith) c.half-points.ensures c.requires.long c.requires.points in
    let both : c.split_at_mut-low.result.0.now ++ c.split_at_mut-low.result.1.now ≡ c.args.buffer.now = search rules in
    let factor : c.skew-factor.result.0 ≡ skew (c.args.level - 1) (2 * c.args.index * 2 ^ (c.args.level - 1)) =
    c.skew-factor.ensures ∙ ap (λ (p : ℕ). skew (c.args.level - 1) (2 * c.args.index * p)) c.half-points.ensures in
    rw (← both)
    (restored_both {low_coeffs = c.restore-else-known-points.new.buffer} {high_sum = c.add_words.new.target}
    {high_coeffs = c.restore-else-known-points-2.new.buffer} (omega arith) c.requires.known record {
      more = omega (arith, c.if-known-points.false);
      halves = omega (arith, c.split_at_mut-low.ensures);
      in_low = rw c.half-points.ensures at c.restore-else-known-points.ensures;
      to_high = rw c.half-points.ensures at c.add_words.ensures;
      in_high = rw c.half-points.ensures at c.restore-else-known-points-2.ensures;
      high_back = turned c.add_words-else-known-points.ensures;
      sums = record {
        few = let most = c.requires.few in omega arith;
        bytes = λ i. let b = c.type_inv.buffer i in search rules;
        halves = omega (
          arith,
          c.split_at_mut-low.ensures,
          c.restore-else-known-points.auto.buffer,
          c.add_words.ensures.long,
          c.restore-else-known-points-2.auto.buffer,
          c.add_words-else-known-points.ensures.long,
          c.add_product-else-known-points.ensures.long,
        );
        to_low = turned (rw factor at c.add_product-else-known-points.ensures);
      };
    })
