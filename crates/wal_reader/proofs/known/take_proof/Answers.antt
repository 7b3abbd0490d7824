use Rattle.wal_reader.proofs.Common.{sym, ap, ◌∙◌, Option, is_some, false≢true, EncodingProof}
use Rattle.wal_reader.proofs.KnownLaws.{proof_more}
use Rattle.wal_reader.proofs.known.take_proof.Goals as goal

pub returns-in_default-clause-found : goal.returns-in_default-clause-found
returns-in_default-clause-found g c = λ payloads found.
    let good = rw c.view.ensures.value at c.in_default.ensures.none in
    proof_more g.H.Hash32.digest c.args.id.now.0 c.args.known.now.metadata payloads c.args.payload.now
    c.args.known.now.proof (λ p none. good p) found

pub returns-else-is_none-clause-found : goal.returns-else-is_none-clause-found
returns-else-is_none-clause-found g c = λ payloads found.
    proof_more g.H.Hash32.digest c.args.id.now.0 c.args.known.now.metadata payloads c.args.payload.now c.args.known.now.proof
    (λ p none carries. false≢true (sym (ap (λ (o : Option EncodingProof). is_some o) none) ∙ c.if-is_none.ensures)) found
