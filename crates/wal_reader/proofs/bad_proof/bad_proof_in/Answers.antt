use Rattle.wal_reader.proofs.Common.{◌∙◌, metadata_shown, proof_shown, CarriesBadProof, take_all}
use Rattle.wal_reader.proofs.FirstOnes.{first_at, none_more}
use Rattle.wal_reader.proofs.bad_proof.bad_proof_in.Goals as goal

pub returns-in-Some-clause-first : goal.returns-in-Some-clause-first
returns-in-Some-clause-first g c =
    first_at (CarriesBadProof g.H.Hash32.digest c.args.id.now.0 (metadata_shown c.args.m)) c.args.payloads.now _ _
    c.as_slice.result.now (proof_shown c.in-Some.p) c.as_slice-payload-items.ensures c.loop-payload-test.true
    (cc (c.as_slice.ensures, c.payload-item.is)) c.loop-payload.invariant.none c.in-Some.ensures.some

pub returns-clause-none : goal.returns-clause-none
returns-clause-none g c =
    rw (take_all _ _ c.loop-payload-test.false, c.as_slice-payload-items.ensures) at c.loop-payload.invariant.none

pub loop-payload-preserved : goal.loop-payload-preserved
loop-payload-preserved g c = record {
  none = none_more (CarriesBadProof g.H.Hash32.digest c.args.id.now.0 (metadata_shown c.args.m)) _ _
      c.as_slice.result.now c.loop-payload-test.true (cc (c.as_slice.ensures, c.payload-item.is))
      c.loop-payload.invariant.none c.in_default.ensures.none;
  f = c.bad_proof_of.ensures.f ∙ c.loop-payload.invariant.f;
}
