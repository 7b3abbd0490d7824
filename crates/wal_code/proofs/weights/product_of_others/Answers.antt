-- Each point other than the given one adds its difference to the product.
use Rattle.wal_code.proofs.Common.{◌∙◌, sym, ap, ℕ, List, get_or, lit<, arith, one-times, times-one, product_of_others}
use Rattle.wal_code.proofs.Differences.{product_of_others-lt, other-same, other-other, taken, whole}
use Rattle.wal_code.proofs.Points.{words_of}
use Rattle.wal_code.proofs.Words.{product_of_others-own}
use Rattle.wal_code.proofs.weights.product_of_others.Goals as goal
use Rattle.wal_code.proofs.weights.product_of_others.Goals.{then-q-point, else-q-point}

pub loop-q-init : goal.loop-q-init
loop-q-init c = (lit< tt, one-times _ (product_of_others-lt c.args.known.now c.args.point c.args.wanted))

pub loop-q-preserved : goal.loop-q-preserved
loop-q-preserved c =
    let known : List ℕ = c.args.known.now in
    let q : ℕ = get_or known c.loop-q.q-index 0 in
    let p : ℕ = c.args.point in
    let w : ℕ = c.args.wanted in
    taken known c.loop-q.q-index p w c.loop-q.product.0 c.if-q-point.product.0 (product_of_others known p w) (omega arith)
    (omega (arith, c.type_inv.known c.loop-q.q-index)) c.loop-q-test.true
    (elim c.if-q-point.branch [
      | then-q-point b ↦ cc (b.product-is, b.mul-product.ensures, other-other p w q (λ e. b.if-q-point.true (sym e)))
      | else-q-point b ↦
          cc (b.product-is, times-one c.loop-q.product.0 c.loop-q.invariant.0, other-same p w q (sym b.if-q-point.false))
    ])
    c.loop-q.invariant.1

pub returns-clause-value : goal.returns-clause-value
returns-clause-value c =
    whole c.args.known.now c.loop-q.q-index c.args.point c.args.wanted c.loop-q.product.0
    (product_of_others c.args.known.now c.args.point c.args.wanted) c.loop-q.invariant.0 c.loop-q-test.false c.loop-q.invariant.1

pub returns-clause-nonzero : goal.returns-clause-nonzero
returns-clause-nonzero c e z =
    product_of_others-own c.args.known.now c.args.point
    (words_of c.args.known.now (λ i l. omega (arith, c.type_inv.known i)))
    (omega arith)
    (ap (λ (w : ℕ). product_of_others c.args.known.now c.args.point w) (sym e) ∙ sym (returns-clause-value c) ∙ z)
