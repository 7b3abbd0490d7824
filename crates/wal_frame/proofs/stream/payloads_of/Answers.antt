use Rattle.wal_frame.proofs.Common.{List, ℕ, ◌≡◌, ◌++◌, ◌∷◌, [], Ok, ◌∙◌, sym, ap, arith}
use Rattle.wal_frame.proofs.StreamLaws.{shorter, goes_on, stops, is_done}
use Rattle.wal_frame.proofs.stream.payloads_of.Goals as goal

pub returns-in-None : goal.returns-in-None
returns-in-None c = stops c.args.stream.now c.loop-rest.rest.now c.loop-rest.payloads.items (sym c.is_empty.ensures ∙ c.loop-rest-test.true) (sym c.in-None.ensures) c.loop-rest.invariant.same

pub loop-rest-smaller : goal.loop-rest-smaller
loop-rest-smaller c =
    let len = shorter c.loop-rest.rest.now (c.in-Some.payload.now, c.in-Some.after.now) (sym c.in-Some.ensures) in
    omega (arith, len)

pub loop-rest-preserved : goal.loop-rest-preserved
loop-rest-preserved c =
    let next = goes_on c.args.stream.now c.loop-rest.rest.now c.loop-rest.payloads.items (c.in-Some.payload.now, c.in-Some.after.now) c.loop-rest.invariant.left (sym c.in-Some.ensures) c.loop-rest.invariant.same in
    let pushed : c.push.new.self.items ≡ c.loop-rest.payloads.items ++ c.in-Some.payload.now ∷ [] = c.in_ok-push-in-Some.ensures.items ∙ ap (λ (p : List ℕ). c.loop-rest.payloads.items ++ p ∷ []) (c.from_vec.ensures ∙ c.in_ok-from_slice-in-Some.ensures.items) in
    record { left = next.0; same = rw pushed next.1 }

pub returns : goal.returns
returns c = is_done c.args.stream.now c.loop-rest.rest.now c.loop-rest.payloads.items (sym c.is_empty.ensures ∙ c.loop-rest-test.false) c.loop-rest.invariant.same ∙ ap (λ (ps : List (List ℕ)). Ok ps) (sym c.from_vec-2.ensures)
