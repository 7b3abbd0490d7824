use Rattle.wal_fft.proofs.Common.{◌≡◌, ◌-◌, ◌*◌, ◌^◌, ◌<◌, inl, inr, ◌++◌, length, slice_index, ℕ, rules, arith, ◌∙◌, ap, skew, lane}
use Rattle.wal_fft.proofs.Blocks.{halved}
use Rattle.wal_fft.proofs.Steps.{one_point, none_wanted, evaluated}
use Rattle.wal_fft.proofs.transform.+evaluate.Goals as goal
use Rattle.wal_fft.proofs.transform.+evaluate.Goals.{then-start-points-via-then-start-points, then-start-points-via-else-start-points+then-wanted-start}

pub returns-then-level-eq0 : goal.returns-then-level-eq0
returns-then-level-eq0 t c w l i below after before = one_point (lane c.args.width c.args.buffer.now w) _ c.if-level-eq0.true below

pub overflow_mul-start-2 : goal.overflow_mul-start-2
overflow_mul-start-2 t c = omega (arith, halved (omega arith) c.half-points.ensures c.requires.long c.requires.points)

pub overflow_add-start : goal.overflow_add-start
overflow_add-start t c = omega (arith, halved (omega arith) c.half-points.ensures c.requires.long c.requires.points)

pub returns-then-start-points : goal.returns-then-start-points
returns-then-start-points t c =
    none_wanted _ _ _ (omega arith) c.half-points.ensures
    (elim c.then-start-points.branch [
      | then-start-points-via-then-start-points w ↦ inl w.if-start-points.true
      | then-start-points-via-else-start-points+then-wanted-start w ↦ inr w.if-wanted-start.true
    ])

pub overflow_mul-points-3 : goal.overflow_mul-points-3
overflow_mul-points-3 t c =
    let fits : length c.args.buffer.now < 2 ^ 63 = search rules in
    omega (arith, halved (omega arith) c.half-points.ensures c.requires.long c.requires.points)

pub split_at_mut-low-requires : goal.split_at_mut-low-requires
split_at_mut-low-requires t c = omega (arith, halved (omega arith) c.half-points.ensures c.requires.long c.requires.points)

pub skew-requires-clause-point : goal.skew-requires-clause-point
skew-requires-clause-point t c = omega (arith, halved (omega arith) c.half-points.ensures c.requires.long c.requires.points)

pub add_product-requires-clause-equal : goal.add_product-requires-clause-equal
add_product-requires-clause-equal t c =
    omega (arith, c.split_at_mut-low.ensures, halved (omega arith) c.half-points.ensures c.requires.long c.requires.points)

pub add_words-requires-clause-equal : goal.add_words-requires-clause-equal
add_words-requires-clause-equal t c =
    let halves = halved (omega arith) c.half-points.ensures c.requires.long c.requires.points in
    omega (arith, c.split_at_mut-low.ensures, c.add_product.ensures.long)

pub evaluate-requires : goal.evaluate-requires
evaluate-requires t c =
    let halves = halved (omega arith) c.half-points.ensures c.requires.long c.requires.points in
    omega (arith, c.decreases, c.split_at_mut-low.ensures, c.add_product.ensures.long)

pub evaluate-requires-2 : goal.evaluate-requires-2
evaluate-requires-2 t c =
    let halves = halved (omega arith) c.half-points.ensures c.requires.long c.requires.points in
    omega (arith, c.decreases, c.split_at_mut-low.ensures, c.add_words.ensures.long)

pub returns : goal.returns
returns t c =
    let halves = halved (omega arith) c.half-points.ensures c.requires.long c.requires.points in
    let both : c.split_at_mut-low.result.0.now ++ c.split_at_mut-low.result.1.now ≡ c.args.buffer.now = search rules in
    let factor : c.skew.result.0 ≡ skew (c.args.level - 1) (2 * c.args.index * 2 ^ (c.args.level - 1)) =
    c.skew.ensures ∙ ap (λ (p : ℕ). skew (c.args.level - 1) (2 * c.args.index * p)) c.half-points.ensures in
    rw (← both)
    (evaluated {low_sum = c.add_product.new.target} {high_sum = c.add_words.new.target} {low_values = c.evaluate.new.buffer}
    {high_values = c.evaluate-2.new.buffer} (omega arith) record {
      sums = record {
        few = let most = c.requires.few in omega arith;
        bytes = λ k. let byte : slice_index c.args.buffer.now k < 256 = search rules in rw both byte;
        halves = omega (arith, c.split_at_mut-low.ensures);
        to_low = rw factor at c.add_product.ensures;
      };
      to_high = c.add_words.ensures;
      value_halves = omega (
        arith,
        c.split_at_mut-low.ensures,
        c.evaluate.auto.buffer,
        c.add_product.ensures.long,
        c.evaluate-2.auto.buffer,
        c.add_words.ensures.long,
      );
      in_low = c.evaluate.ensures;
      in_high = c.evaluate-2.ensures;
    })
