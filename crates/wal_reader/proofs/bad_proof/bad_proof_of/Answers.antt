use Rattle.wal_reader.proofs.Common.{rules, metadata_shown, proof_shown}
use Rattle.wal_reader.proofs.FirstOnes.{not_bad}
use Rattle.wal_reader.proofs.bad_proof.bad_proof_of.Goals as goal

pub returns-else-is_bad_proof-clause-none : goal.returns-else-is_bad_proof-clause-none
returns-else-is_bad_proof-clause-none g c =
    not_bad g.H.Hash32.digest c.args.id.now.0 (metadata_shown c.args.m) c.args.payload.now (proof_shown c.in-Some.p)
    c.in-Some.ensures.some (search rules)

pub returns-then-is_bad_proof-clause-some : goal.returns-then-is_bad_proof-clause-some
returns-then-is_bad_proof-clause-some g c = (c.in-Some.ensures.some, c.is_bad_proof.ensures.bad.0 c.if-is_bad_proof.true)
