use Rattle.wal_reader.proofs.Common.{sym, ◌∙◌, metadata_shown}
use Rattle.wal_reader.proofs.HeardLaws.{known_still, two_new}
use Rattle.wal_reader.proofs.kept.after_one.Goals as goal

pub returns-in-Some-clause-heard : goal.returns-in-Some-clause-heard
returns-in-Some-clause-heard g c = λ payloads was.
    let m = c.args.known.metadata in
    let other = metadata_shown c.in-Some.other in (
      m,
      other,
      two_new g.H.Hash32.digest c.args.id.now.0 payloads c.args.payload.now m other was.0 was.2 c.in-Some.ensures.some
          (λ e. c.in-Some.ensures.apart (e ∙ sym c.view.ensures.value)),
      c.collide_metadata-clash.ensures.collision,
      rw c.view-in-Some.ensures.value at c.collide_metadata-clash.ensures.texts,
    )

pub returns-in_ok-take_part-in-None-clause-heard : goal.returns-in_ok-take_part-in-None-clause-heard
returns-in_ok-take_part-in-None-clause-heard g c = λ payloads was.
    known_still g.H.Hash32.digest c.args.id.now.0 c.args.known c.take_part.new.known payloads c.args.payload.now (metadata_shown c.view.result) c.view.ensures.value
    c.take_part.ensures.metadata c.in-None.ensures.none (c.in_ok-take_part-in-None.ensures.taken payloads) was
