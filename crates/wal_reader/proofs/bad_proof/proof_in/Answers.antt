use Rattle.wal_reader.proofs.Common.{proof_shown, CarriesProof, take_all}
use Rattle.wal_reader.proofs.FirstOnes.{first_at, none_more}
use Rattle.wal_reader.proofs.bad_proof.proof_in.Goals as goal

pub returns-in-Some-clause-first : goal.returns-in-Some-clause-first
returns-in-Some-clause-first c =
    first_at (CarriesProof c.args.id.now.0) c.args.payloads.now _ _
    c.as_slice.result.now (proof_shown c.in-Some.p) c.as_slice-payload-items.ensures c.loop-payload-test.true
    (cc (c.as_slice.ensures, c.payload-item.is)) c.loop-payload.invariant c.in-Some.ensures.some

pub returns-clause-none : goal.returns-clause-none
returns-clause-none c =
    rw c.as_slice-payload-items.ensures at (rw (take_all _ _ c.loop-payload-test.false) at c.loop-payload.invariant)

pub loop-payload-preserved : goal.loop-payload-preserved
loop-payload-preserved c =
    none_more (CarriesProof c.args.id.now.0) _ _ c.as_slice.result.now c.loop-payload-test.true
    (cc (c.as_slice.ensures, c.payload-item.is)) c.loop-payload.invariant c.in_default.ensures.none
