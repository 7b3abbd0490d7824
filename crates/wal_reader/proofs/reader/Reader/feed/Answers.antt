use Rattle.wal_reader.proofs.Common.{Some, refl, shown}
use Rattle.wal_reader.proofs.StandingLaws.{feeds_ok, feeds_err}
use Rattle.wal_reader.proofs.reader.Reader.feed.Goals as goal

pub returns-in-Ok-clause-feeds : goal.returns-in-Ok-clause-feeds
returns-in-Ok-clause-feeds g c = λ id stream s.
    let here = rw (← c.self.view_is) at s in
    feeds_ok g.H.Hash32.digest id _ (shown c.take.new.self)
    (record { intake = shown c.take.new.self; failed = c.self.inside.failed }) stream c.args.piece.now tt here.0 refl
    c.in-Ok.ensures.takes c.in-Ok.ensures.sound.limit here.1

pub returns-in-Err-clause-feeds : goal.returns-in-Err-clause-feeds
returns-in-Err-clause-feeds g c = λ id stream s.
    let here = rw (← c.self.view_is) at s in
    feeds_err g.H.Hash32.digest id _ (record { intake = shown c.take.new.self; failed = Some c.in-Err.error }) stream
    c.args.piece.now c.in-Err.error (λ more. let is = c.in-Err.ensures.long more in cc) c.in-Err.ensures.refuses here.1
