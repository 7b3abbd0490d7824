use Rattle.wal_reader.proofs.Common.{◌∙◌, metadata_shown, CarriesHeldSliver, take_all}
use Rattle.wal_reader.proofs.FirstOnes.{first_at, none_more}
use Rattle.wal_reader.proofs.slivers.sliver_in.Goals as goal

pub returns-in-Some-clause-first : goal.returns-in-Some-clause-first
returns-in-Some-clause-first g c =
    first_at (CarriesHeldSliver g.H.Hash32.digest c.args.id.now.0 (metadata_shown c.args.m)
    c.args.axis c.args.index) c.args.payloads.now _ _
    c.as_slice.result.now c.in-Some.sliver.bytes.now c.as_slice-payload-items.ensures c.loop-payload-test.true
    (cc (c.as_slice.ensures, c.payload-item.is)) c.loop-payload.invariant.none c.in-Some.ensures.some

pub returns-clause-none : goal.returns-clause-none
returns-clause-none g c =
    rw (take_all _ _ c.loop-payload-test.false, c.as_slice-payload-items.ensures) at c.loop-payload.invariant.none

pub loop-payload-preserved : goal.loop-payload-preserved
loop-payload-preserved g c = record {
  none = none_more (CarriesHeldSliver g.H.Hash32.digest c.args.id.now.0 (metadata_shown c.args.m) c.args.axis
      c.args.index) _ _ c.as_slice.result.now c.loop-payload-test.true (cc (c.as_slice.ensures, c.payload-item.is))
      c.loop-payload.invariant.none c.in_default.ensures.none;
  f = c.held_sliver_of.ensures.f ∙ c.loop-payload.invariant.f;
}
