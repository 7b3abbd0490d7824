use Rattle.wal_erasure.proofs.Common.{◌∷◌, ◌∙◌, sym, ap, arith, Gf, refl}
use Rattle.wal_erasure.proofs.LocatorLaws.{is_known-first, is_known-rest, locator-start, locator-other, product_step}
use Rattle.wal_erasure.proofs.locator.product_of_others.Goals as goal
use Rattle.wal_erasure.proofs.locator.product_of_others.Goals.{then-other-point+then-not-marks-place, else-other-point, else-other-point-via-then-other-point+else-not-marks-place, else-other-point-via-else-other-point}

pub loop-place-init : goal.loop-place-init
loop-place-init c = sym (locator-start (c.args.point ∷ c.args.known.now) c.args.point)

pub loop-place-preserved : goal.loop-place-preserved
loop-place-preserved c =
    let mark = c.requires.marks c.loop-place.place (omega arith) in
    elim c.if-other-point.branch [
      | then-other-point+then-not-marks-place w ↦
          ap (λ (g : Gf). g.0) w.product-is ∙ w.mul-product.ensures
          ∙ product_step _ _ _ _ (is_known-rest _ _ _ (λ same. w.if-other-point.true (sym same)) ∙ sym mark ∙ w.if-not-marks-place.true) c.loop-place.invariant
      | else-other-point w ↦
          ap (λ (g : Gf). g.0) w.product-is
          ∙ elim w.else-other-point.branch [
            | else-other-point-via-then-other-point+else-not-marks-place v ↦
                product_step _ _ _ _ (is_known-rest _ _ _ (λ same. v.if-other-point.true (sym same)) ∙ sym mark ∙ v.if-not-marks-place.false) c.loop-place.invariant
            | else-other-point-via-else-other-point v ↦ product_step _ _ _ _ (is_known-first _ _ _ (sym v.if-other-point.false)) c.loop-place.invariant
          ]
    ]

pub returns-clause-nonzero : goal.returns-clause-nonzero
returns-clause-nonzero c none =
    let few = c.requires.few in
    locator-other (c.args.point ∷ c.args.known.now) c.loop-place.place c.args.point (omega arith) (omega arith)
    (is_known-first _ _ c.args.known.now refl) (sym c.loop-place.invariant ∙ none)
