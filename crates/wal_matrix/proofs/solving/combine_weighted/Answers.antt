use Rattle.wal_matrix.proofs.Common.{◌≡◌, ℕ, List, rules, arith, ◌∙◌, refl, subst, slice_index, coefficient, region, IsScaledSum}
use Rattle.wal_matrix.proofs.Sums.{sum_none, sum_more}
use Rattle.wal_matrix.proofs.solving.combine_weighted.Goals as goal

pub loop-k-init : goal.loop-k-init
loop-k-init c =
    sum_none (λ k. coefficient c.args.known.now (slice_index c.args.known.now k) c.args.wanted) c.args.size c.args.sources.now c.fill.new.self
    (c.fill.ensures.len ∙ c.requires.into) (λ i h. c.fill.ensures.clones i 0 (omega arith) refl)

pub loop-k-preserved : goal.loop-k-preserved
loop-k-preserved c =
    let weight : ℕ → ℕ = λ k. coefficient c.args.known.now (slice_index c.args.known.now k) c.args.wanted in
    let P : ℕ → List ℕ → Type 0 = λ a s. IsScaledSum a c.loop-k.target s c.add_weighted.new.target in
    let same : c.region.result.now ≡ region c.args.size c.args.sources.now c.loop-k.k = search rules in
    let by_weight = subst (λ a. P a c.region.result.now) (c.requires.weights c.loop-k.k (omega arith)) c.add_weighted.ensures in
    sum_more weight c.args.size c.loop-k.k c.args.sources.now c.loop-k.target c.add_weighted.new.target c.loop-k.invariant
    (subst (λ s. P (weight c.loop-k.k) s) same by_weight)
