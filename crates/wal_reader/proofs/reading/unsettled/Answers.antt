use Rattle.wal_reader.proofs.Common.{◌+◌, arith, metadata_shown, proof_shown}
use Rattle.wal_reader.proofs.Answered.{refuted, short}
use Rattle.wal_reader.proofs.reading.unsettled.Goals as goal

pub returns-in_ok-metadata-in-Some : goal.returns-in_ok-metadata-in-Some
returns-in_ok-metadata-in-Some g c =
    refuted g.H.Hash32.digest c.args.id.now.0 (metadata_shown c.args.m) c.args.payloads.now c.args.have
    (proof_shown c.in-Some.p) c.in_ok-metadata-in-Some.metadata c.in_ok-copied-in-Some.field-0 c.judged.result
    c.requires.metadata c.requires.few c.in-Some.ensures.first c.in_ok-metadata-in-Some.ensures
    c.in_ok-copied-in-Some.ensures c.judged.ensures

pub returns-in-None : goal.returns-in-None
returns-in-None g c =
    short g.H.Hash32.digest c.args.id.now.0 (metadata_shown c.args.m) c.args.payloads.now c.args.have
    (c.f-need.result + 1) c.without_evidence.result c.requires.metadata c.requires.few
    (omega (arith, c.f-need.ensures.value)) c.in-None.ensures.none c.without_evidence.ensures
