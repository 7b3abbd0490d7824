use Rattle.wal_frame.proofs.Common.{Ok, sym, ap, ◌∙◌, arith, eqb-true, nil_from_length, EncodingProof, Proof, in_frame}
use Rattle.wal_frame.proofs.FieldLaws.{target_long}
use Rattle.wal_frame.proofs.KindLaws.{proof_of_target, proof_read, proof_found}
use Rattle.wal_frame.proofs.reading.proof_of.Goals as goal

pub split_at-requires : goal.split_at-requires
split_at-requires c = target_long c.args.bytes.now c.in_ok-target.target c.in_ok-target.rest.now c.in_ok-target.ensures

pub unreachable-requires : goal.unreachable-requires
unreachable-requires c =
    let none = nil_from_length c.in_ok-rest.rest.now (eqb-true _ 0 (sym c.is_empty.ensures ∙ c.if-not-is_empty.false)) in
    let read = proof_read c.args.bytes.now c.in_ok-target.target c.in_ok-target.rest.now c.in_ok-count.count c.in_ok-count.rest.now c.in_ok-rest.rest.now (λ i. omega (arith, c.type_inv.bytes i)) c.in_ok-target.ensures (ap in_frame c.in_ok-count.ensures) c.in_ok-rest.ensures none in
    c.in-None.ensures.none (proof_of_target c.in_ok-target.target c.in_ok-count.count c.in_ok-count.rest.now) read.0 (read.1 ∙ sym c.split_at.ensures.back)

pub returns-clause-frame : goal.returns-clause-frame
returns-clause-frame c =
    let none = nil_from_length c.in_ok-rest.rest.now (eqb-true _ 0 (sym c.is_empty.ensures ∙ c.if-not-is_empty.false)) in
    let p = proof_of_target c.in_ok-target.target c.in_ok-count.count c.in_ok-count.rest.now in
    let read = proof_read c.args.bytes.now c.in_ok-target.target c.in_ok-target.rest.now c.in_ok-count.count c.in_ok-count.rest.now c.in_ok-rest.rest.now (λ i. omega (arith, c.type_inv.bytes i)) c.in_ok-target.ensures (ap in_frame c.in_ok-count.ensures) c.in_ok-rest.ensures none in
    proof_found c.args.bytes.now c.in_ok-target.target c.in_ok-target.rest.now c.in_ok-count.count c.in_ok-count.rest.now c.in_ok-rest.rest.now c.in_ok-target.ensures (ap in_frame c.in_ok-count.ensures) c.in_ok-rest.ensures none
    ∙ ap (λ (q : EncodingProof). Ok (Proof c.in_ok-target.target.id.0 q)) (sym (c.in-Some.ensures.only p read.0 (read.1 ∙ sym c.split_at.ensures.back)))
