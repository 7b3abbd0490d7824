use Rattle.wal_frame.proofs.Common.{List, ℕ, ◌≡◌, ◌++◌, length, ap, subst, sym, ◌∙◌, flat_map, take_all, envelope, stream_of, behind}
use Rattle.wal_frame.proofs.StreamLaws.{stream_front, joined}
use Rattle.wal_frame.proofs.stream.join.Goals as goal

pub returns-clause-text : goal.returns-clause-text
returns-clause-text c =
    c.from_vec.ensures
    ∙ c.loop-payload.invariant
    ∙ ap (λ (ps : List (List ℕ)). flat_map (envelope c.args.sender) ps) (take_all c.loop-payload.payload-index c.as_slice-payload-items.result.now c.loop-payload-test.false ∙ c.as_slice-payload-items.ensures)

pub returns-clause-again : goal.returns-clause-again
returns-clause-again c = λ rest. subst (λ (b : List ℕ). stream_of (b ++ rest) ≡ behind c.args.payloads.now (length b) (stream_of rest)) (sym (returns-clause-text c)) (stream_front c.args.payloads.now (flat_map (envelope c.args.sender) c.args.payloads.now) rest (joined c.args.sender c.args.payloads.now c.requires))
