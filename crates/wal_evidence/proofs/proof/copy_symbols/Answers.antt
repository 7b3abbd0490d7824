use Rattle.wal_evidence.proofs.Common.{rules, ◌≡◌, ◌*◌, ◌≤◌, ◌∙◌, length, ap, sym, arith, take_all, Opening, opening_shown, symbol_size, metadata_shown, proof_shown, HoldsOpening}
use Rattle.wal_matrix.proofs.Places.{run_fits}
use Rattle.wal_evidence.proofs.Openings.{held_more, symbol_written}
use Rattle.wal_evidence.proofs.proof.copy_symbols.Goals as goal

pub loop-place-preserved : goal.loop-place-preserved
loop-place-preserved g c =
    let digest = g.H.Hash32.digest in
    let m = metadata_shown c.args.m in
    let p = proof_shown c.args.p.now in
    let i = c.loop-place.place in
    let s = c.symbol_size-size.result in
    let o = opening_shown c.opening-opening.result in
    let Holds : Opening → Type 0 = λ x. HoldsOpening digest m p.axis p.index x in
    let holds : Holds o = search rules in
    let size : s ≡ symbol_size m.f m.length = c.symbol_size-size.ensures.value ∙ ap (λ x. symbol_size x.f x.length) c.shape.ensures.value in
    let room = run_fits i (length p.openings) s (omega (arith, c.loop-place-test.true, c.count-place-end.ensures.value)) in
    let long : length c.loop-place.symbols ≡ length p.openings * s = c.loop-place.auto.symbols ∙ c.requires ∙ ap (λ x. length p.openings * x) (sym size) in
    record {
      held = held_more Holds p.openings i o c.opening-opening.ensures.opening c.loop-place.invariant.held holds;
      copied = symbol_written s p.openings c.loop-place.symbols i _ o c.copy_from_slice.new.self (omega (arith, room, long))
          (ap length c.copy_from_slice.ensures.after ∙ holds.size ∙ sym size) c.opening-opening.ensures.opening c.copy_from_slice.ensures.after
          c.loop-place.invariant.copied;
    }

pub returns-clause-held : goal.returns-clause-held
returns-clause-held g c =
    let all : length (proof_shown c.args.p.now).openings ≤ c.loop-place.place =
    omega (arith, c.loop-place-test.false, c.count-place-end.ensures.value) in
    rw (take_all _ _ all) at c.loop-place.invariant.held
