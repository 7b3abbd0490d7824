use Rattle.wal_reader.proofs.Common.{metadata_shown}
use Rattle.wal_reader.proofs.HeardLaws.{known_new, none_still}
use Rattle.wal_reader.proofs.kept.after_none.Goals as goal

pub returns-in_ok-known_from-in-Some : goal.returns-in_ok-known_from-in-Some
returns-in_ok-known_from-in-Some g c = λ payloads before sifts.
    known_new g.H.Hash32.digest c.args.id.now.0 c.in_ok-known_from-in-Some.field-0 payloads c.args.payload.now
    (metadata_shown c.in-Some.m) before c.in-Some.ensures.some c.in_ok-known_from-in-Some.ensures.metadata
    (c.in_ok-known_from-in-Some.ensures.parts payloads (rw c.deref.ensures.value sifts))

pub returns-in_ok-wait-in-None : goal.returns-in_ok-wait-in-None
returns-in_ok-wait-in-None g c = λ payloads before sifts.
    (none_still g.H.Hash32.digest c.args.id.now.0 payloads c.args.payload.now before c.in-None.ensures.none, c.in_ok-wait-in-None.ensures payloads sifts)
