use Rattle.wal_reader.proofs.Common.{metadata_shown}
use Rattle.wal_reader.proofs.Answered.{absent, collided}
use Rattle.wal_reader.proofs.reading.answer.Goals as goal

pub returns-in-Absent : goal.returns-in-Absent
returns-in-Absent g c =
    absent g.H.Hash32.digest c.args.id.now.0 c.args.payloads.now c.without_evidence.result c.in-Absent.ensures.found c.without_evidence.ensures

pub returns-in-Two : goal.returns-in-Two
returns-in-Two g c =
    collided g.H.Hash32.digest c.args.id.now.0 c.args.payloads.now (metadata_shown c.in-Two.a) (metadata_shown c.in-Two.b) c.collide_metadata-clash.result
    c.without_evidence-in-Two.result c.in-Two.ensures.first c.collide_metadata-clash.ensures.collision c.collide_metadata-clash.ensures.texts
    c.without_evidence-in-Two.ensures
