-- The coefficient as a product of differences over another.
use Rattle.wal_code.proofs.Common.{◌∙◌, sym, ap, ap₂, ℕ, List, get_or, arith, times, inverse}
use Rattle.wal_code.proofs.Evaluation.{interpolates}
use Rattle.wal_code.proofs.Points.{words_of}
use Rattle.wal_code.proofs.Words.{coefficient-quotient}
use Rattle.wal_code.proofs.weights.coefficient.Goals as goal

pub returns-clause-value : goal.returns-clause-value
returns-clause-value c =
    let known : List ℕ = c.args.known.now in
    c.mul.ensures ∙
    ap₂ (λ (s t : ℕ). times s t) c.product_of_others-2.ensures.value
    (c.inv-scale.ensures ∙ ap (λ (s : ℕ). inverse s) c.product_of_others.ensures.value) ∙
    sym (coefficient-quotient known (get_or known c.args.place 0) c.args.wanted
    (words_of known (λ i l. omega (arith, c.type_inv.known i))) (omega (arith, c.type_inv.known c.args.place)) (omega arith))

pub returns-clause-meaning : goal.returns-clause-meaning
returns-clause-meaning c =
    interpolates c.args.known.now c.args.wanted c.requires.distinct
    (words_of c.args.known.now (λ i l. omega (arith, c.type_inv.known i))) (omega arith)
