use Rattle.wal_frame.proofs.Common.{ℕ, ◌++◌, sym, ap, ◌∙◌, arith, envelope}
use Rattle.wal_frame.proofs.StreamLaws.{shorter, envelope_spelled, envelope_only}
use Rattle.wal_frame.proofs.front.envelope.Goals as goal

pub sender_of-sender-requires : goal.sender_of-sender-requires
sender_of-sender-requires c =
    let len = shorter c.args.bytes.now (c.in-Some.payload.now, c.in-Some.rest.now) (sym c.in-Some.ensures) in
    omega (arith, len)

pub returns-in-Some-clause-begins : goal.returns-in-Some-clause-begins
returns-in-Some-clause-begins c =
    let is = envelope_spelled c.args.bytes.now (c.in-Some.payload.now, c.in-Some.rest.now) (λ i. omega (arith, c.type_inv.bytes i)) (sym c.in-Some.ensures) in
    (is.0, is.1 ∙ ap (λ (k : ℕ). envelope k c.in-Some.payload.now ++ c.in-Some.rest.now) (sym c.sender_of-sender.ensures))

pub returns-in-Some-clause-only : goal.returns-in-Some-clause-only
returns-in-Some-clause-only c = λ sender payload rest small fits same.
    let is = envelope_only c.args.bytes.now (c.in-Some.payload.now, c.in-Some.rest.now) sender payload rest (sym c.in-Some.ensures) small fits same in
    (c.sender_of-sender.ensures ∙ is.0, is.1, is.2)
