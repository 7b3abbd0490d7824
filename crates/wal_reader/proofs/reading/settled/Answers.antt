use Rattle.wal_reader.proofs.Common.{metadata_shown}
use Rattle.wal_reader.proofs.Answered.{settled}
use Rattle.wal_reader.proofs.Collections.{held_as}
use Rattle.wal_reader.proofs.reading.settled.Goals as goal

pub judged-requires-clause-held : goal.judged-requires-clause-held
judged-requires-clause-held g c =
    held_as g.H.Hash32.digest c.args.id.now.0 (metadata_shown c.args.m) c.args.payloads.now c.args.collected.indices.items c.args.collected.joined.items
    c.in_ok-metadata.metadata c.from_vec.result c.from_vec-2.result c.requires.collects c.requires.enough c.in_ok-metadata.ensures c.from_vec.ensures c.from_vec-2.ensures

pub returns : goal.returns
returns g c =
    settled g.H.Hash32.digest c.args.id.now.0 (metadata_shown c.args.m) c.args.payloads.now
    c.args.collected.indices.items c.args.collected.joined.items c.in_ok-metadata.metadata c.from_vec.result
    c.from_vec-2.result c.judged.result c.requires.metadata c.requires.collects c.requires.enough
    c.in_ok-metadata.ensures c.from_vec.ensures c.from_vec-2.ensures
    c.judged.ensures
