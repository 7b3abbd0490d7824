use Rattle.wal_reader.proofs.Common.{◌≡◌, ◌+◌, take, drop, metadata_shown, take_all}
use Rattle.wal_reader.proofs.FirstOnes.{parted}
use Rattle.wal_reader.proofs.Gathering.{only_more}
use Rattle.wal_reader.proofs.finding.other_metadata.Goals as goal

pub returns-in-Some-clause-some : goal.returns-in-Some-clause-some
returns-in-Some-clause-some g c = (
  take c.loop-payload.payload-index c.args.payloads.now,
  c.as_slice.result.now,
  drop (c.loop-payload.payload-index + 1) c.args.payloads.now,
  parted _ _ _ c.loop-payload-test.true (cc (c.as_slice.ensures, c.payload-item.is)),
  c.in-Some.ensures.some,
  c.in-Some.ensures.apart,
  c.loop-payload.invariant,
)

pub loop-payload-preserved : goal.loop-payload-preserved
loop-payload-preserved g c =
    only_more g.H.Hash32.digest c.args.id.now.0 (λ other. other ≡ metadata_shown c.args.m) c.args.payloads.now _
    c.as_slice.result.now c.loop-payload-test.true (cc (c.as_slice.ensures, c.payload-item.is)) c.loop-payload.invariant
    c.in_default.ensures.none

pub returns-clause-none : goal.returns-clause-none
returns-clause-none g c = rw (take_all _ _ c.loop-payload-test.false) at c.loop-payload.invariant
