use Rattle.wal_reader.proofs.Common.{take, drop, ◌∙◌, arith, take-append-drop, metadata_shown}
use Rattle.wal_reader.proofs.Collections.{collects_full, collects_none}
use Rattle.wal_reader.proofs.Gathering.{front_more}
use Rattle.wal_reader.proofs.collecting.collect.Goals as goal

pub loop-payload-init : goal.loop-payload-init
loop-payload-init g c = record {
  collects = rw (c.new.ensures.items, c.new-2.ensures.items)
      (collects_none g.H.Hash32.digest c.args.id.now.0 (metadata_shown c.args.m));
  f = c.requires;
}

pub returns-then-len-need-clause-collects : goal.returns-then-len-need-clause-collects
returns-then-len-need-clause-collects g c =
    let i = c.loop-payload.payload-index in
    let now = c.loop-payload.collected in
    rw take-append-drop at (collects_full g.H.Hash32.digest c.args.id.now.0 (metadata_shown c.args.m)
    (take i c.args.payloads.now) (drop i c.args.payloads.now) now.indices.items now.joined.items
    (omega (arith, c.if-len-need.true, c.len.ensures, c.f.ensures.value)) c.loop-payload.invariant.collects)

pub loop-payload-preserved : goal.loop-payload-preserved
loop-payload-preserved g c =
    let more =
    front_more _ _ c.as_slice.result.now c.loop-payload-test.true (cc (c.as_slice.ensures, c.payload-item.is)) in
    record {
      collects = rw more (c.in_ok-add_sliver.ensures.added _ c.loop-payload.invariant.collects);
      f = c.add_sliver.ensures.f ∙ c.loop-payload.invariant.f;
    }
