-- The combination of the values is the value of the one polynomial that passes through them.
use Rattle.wal_code.proofs.Common.{◌≡◌, ◌∙◌, sym, slice_index, arith, combination, common_steps, evaluate}
use Rattle.wal_code.proofs.Evaluation.{solution, combination-same, interpolates}
use Rattle.wal_code.proofs.Tables.{weighted}
use Rattle.wal_code.proofs.Points.{words_of}
use Rattle.wal_code.proofs.codewords.solve_words.Goals as goal

pub returns-clause-solved : goal.returns-clause-solved
returns-clause-solved c =
    let found = solution c.args.known.now c.args.values.now c.requires.distinct
    (words_of c.args.known.now (λ i l. omega (arith, c.type_inv.known i)))
    (words_of c.args.values.now (λ i l. omega (arith, c.type_inv.values i))) c.requires.values in
    (found.0, found.1, λ i l. c.loop-place.invariant i (omega arith) ∙ sym (found.2 i (omega arith)))

pub returns-clause-only : goal.returns-clause-only
returns-clause-only c cs p i l =
    let known = c.args.known.now in
    c.loop-place.invariant i (omega arith) ∙
    combination-same known i (slice_index c.args.values.now) (λ k. evaluate cs (slice_index known k))
    (λ k m. sym (p.there k m)) ∙
    sym (interpolates known i c.requires.distinct (words_of known (λ k m. omega (arith, c.type_inv.known k)))
    (omega arith) cs p.few p.words)

pub loop-place-preserved : goal.loop-place-preserved
loop-place-preserved c =
    let here : c.weighted_sum.result ≡ combination c.args.known.now (slice_index c.args.values.now) c.loop-place.place =
    c.weighted_sum.ensures ∙
    weighted c.args.known.now c.args.values.now c.fill_weights.new.weights c.loop-place.place c.requires.values c.fill_weights.ensures in
    grind (arith, common_steps, here, c.loop-place.invariant)
