use Rattle.wal_matrix.proofs.Common.{◌≡◌, ◌+◌, ◌*◌, ◌≤◌, ℕ, List, length, rules, arith, sym, subst, below_more, slice_index, coefficient, IsWeightedSum}
use Rattle.wal_matrix.proofs.Runs.{region-put_other, region-put_same}
use Rattle.wal_matrix.proofs.Places.{run_fits}
use Rattle.wal_matrix.proofs.solving.solve_few.Goals as goal

pub loop-place-preserved : goal.loop-place-preserved
loop-place-preserved c =
    let size = c.args.size in
    let known = c.args.known.now in
    let place = c.loop-place.place in
    let old = c.loop-place.targets in
    let target = c.combine_weighted.new.target in
    let P : ℕ → List ℕ → Type 0 = λ i t. IsWeightedSum (λ k. coefficient known (slice_index known k) i) size c.args.sources.now (length known) t in
    let start : size * place ≡ size * place = search rules in
    let inside : size * place + size ≤ length old = omega (arith, run_fits place c.args.wanted size (omega arith)) in
    below_more _ _
    (λ i h. subst (P i) (sym (region-put_other size i place (size * place) _ old target h (sym start) (omega arith))) (c.loop-place.invariant i h))
    (subst (P place) (sym (region-put_same size place (size * place) _ old target (sym start) inside c.combine_weighted.ensures.long)) c.combine_weighted.ensures)
