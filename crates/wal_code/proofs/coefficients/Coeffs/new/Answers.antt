-- Each wanted point adds its row.
use Rattle.wal_code.proofs.Common.{◌≡◌, ◌∙◌, sym, ℕ, List, ◌+◌, length, arith, subst, Gf}
use Rattle.wal_code.proofs.Tables.{HasRows, row_added}
use Rattle.wal_code.proofs.coefficients.Coeffs.new.Goals as goal

pub loop-point-preserved : goal.loop-point-preserved
loop-point-preserved c =
    let known : List ℕ = c.args.known.now in
    let Rows : List Gf → Type 0 = λ t. HasRows known c.args.wanted.now (c.loop-point.point-index + 1) t in
    let size : length c.fill_weights.new.weights ≡ length known = c.fill_weights.auto.weights ∙ c.loop-point.invariant.0 in (
      size,
      subst Rows (sym c.in_ok-extend_from_slice.ensures.items)
          (row_added known c.args.wanted.now c.loop-point.point-index c.loop-point.table.items
          c.fill_weights.new.weights c.loop-point.invariant.1 size c.fill_weights.ensures),
    )

pub invariant_of-result : goal.invariant_of-result
invariant_of-result c =
    let known : c.in_ok-to_vec.field-0.items ≡ c.args.known.now = c.in_ok-to_vec.ensures.items_if_clones_equal (λ x y e. e) in
    let wanted : c.in_ok-to_vec-2.field-0.items ≡ c.args.wanted.now = c.in_ok-to_vec-2.ensures.items_if_clones_equal (λ x y e. e) in
    let all : c.loop-point.point-index ≡ length c.args.wanted.now = omega arith in
    rw (known, wanted) record {
      distinct = c.requires.distinct;
      known_below = c.requires.known_below;
      wanted_below = c.requires.wanted_below;
      size = rw all at c.loop-point.invariant.1.0;
      entries = λ w k i m. c.loop-point.invariant.1.1 w k (omega arith) m;
    }
