use Rattle.wal_run.proofs.PieceLaws.{wrong_malformed}
use Rattle.wal_run.proofs.pieces.finish_stream.Goals as goal

pub returns-in-Some : goal.returns-in-Some
returns-in-Some g c = record {
  finishes = λ id stream stands. wrong_malformed c.in-Some.place stream (rw c.in-Some.is at stands);
}

pub returns-in-None : goal.returns-in-None
returns-in-None g c = record {
  finishes = λ id stream stands. c.finish.ensures.finishes id stream (rw c.in-None.is at stands);
}
