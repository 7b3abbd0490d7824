use Rattle.wal_reader.proofs.Common.{◌++◌, ◌∷◌, [], sym, ◌∙◌, None, false≢true, on_ok_weaker, HasParts, IsEnough, IsProofFound}
use Rattle.wal_reader.proofs.KnownLaws.{parts_enough, parts_found, parts_more}
use Rattle.wal_reader.proofs.known.take_part.Goals as goal

pub returns-then-has_enough-clause-taken : goal.returns-then-has_enough-clause-taken
returns-then-has_enough-clause-taken g c = λ payloads was.
    parts_enough g.H.Hash32.digest c.args.id.now.0 c.args.known.now payloads c.args.payload.now (c.has_enough.ensures.0 c.if-has_enough.true) was

pub returns-then-has_enough-2-clause-taken : goal.returns-then-has_enough-2-clause-taken
returns-then-has_enough-2-clause-taken g c = λ payloads was.
    let new = c.take_sliver.new.known in
    parts_more g.H.Hash32.digest c.args.id.now.0 c.args.known.now
    (record { metadata = new.metadata; work = new.work; collected = new.collected; proof = None }) payloads
    c.args.payload.now (λ e. false≢true (sym c.if-has_enough.false ∙ c.has_enough.ensures.1 e))
    c.take_sliver.ensures.metadata (c.take_sliver.ensures.f ∙ c.requires)
    (c.in_ok-take_sliver.ensures.added payloads was.slivers)
    (λ still found. absurd (still (c.has_enough-2.ensures.0 c.if-has_enough-2.true))) was

pub returns-clause-taken : goal.returns-clause-taken
returns-clause-taken g c = λ payloads was.
    let digest = g.H.Hash32.digest in
    let id = c.args.id.now.0 in
    let old = c.args.known.now in
    let new = c.take_proof.new.known in
    let more = payloads ++ c.args.payload.now ∷ [] in
    let short : IsEnough old → ⊥ = λ e. false≢true (sym c.if-has_enough.false ∙ c.has_enough.ensures.1 e) in
    let collects = rw (← c.take_proof.ensures.collected) at (c.in_ok-take_sliver.ensures.added payloads was.slivers) in
    on_ok_weaker {P = IsProofFound digest id c.take_sliver.new.known.metadata more new.proof}
    {Q = HasParts digest id new more} c.take_proof.result
    (λ now. parts_more digest id old new payloads c.args.payload.now short
    (c.take_proof.ensures.metadata ∙ c.take_sliver.ensures.metadata)
    (c.take_proof.ensures.f ∙ c.take_sliver.ensures.f ∙ c.requires) collects
    (λ still was_found. rw c.take_sliver.ensures.metadata at now) was)
    (c.take_proof.ensures.found payloads (rw (c.take_sliver.ensures.metadata, c.take_sliver.ensures.proof)
    (parts_found digest id old payloads short was)))
