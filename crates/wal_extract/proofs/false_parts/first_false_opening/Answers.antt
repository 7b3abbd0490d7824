-- Each opening's symbol is compared with the matrix's.
use Rattle.wal_extract.proofs.Common.{◌≡◌, ◌∙◌, rules, arith, below_more, slice_get_within, opening_shown, proof_shown}
use Rattle.wal_extract.proofs.false_parts.first_false_opening.Goals as goal

pub symbol_of-requires-clause-index : goal.symbol_of-requires-clause-index
symbol_of-requires-clause-index c = omega (arith, c.requires.index, c.index.ensures.value)

pub symbol_of-requires-clause-cross : goal.symbol_of-requires-clause-cross
symbol_of-requires-clause-cross c = c.requires.crosses c.loop-place.place (opening_shown c.opening-opening.result) c.opening-opening.ensures.opening

pub loop-place-preserved : goal.loop-place-preserved
loop-place-preserved c =
    let same : c.opening-opening.result.symbol.now ≡ c.symbol_of.result.now = search rules in
    let own = rw (c.axis.ensures, c.index.ensures.value) at (same ∙ c.symbol_of.ensures) in
    below_more _ _ c.loop-place.invariant
    (λ o is. let one : o ≡ opening_shown c.opening-opening.result = cc c.opening-opening.ensures.opening in rw one own)

pub unreachable-requires : goal.unreachable-requires
unreachable-requires c =
    let r = c.requires in
    let inside = slice_get_within (proof_shown c.args.p.now).openings r.place r.opening r.there in
    r.apart
    (c.loop-place.invariant r.place (omega (arith, inside, c.loop-place-test.false, c.count-place-end.ensures.value))
    r.opening r.there)
