use Rattle.wal_run.proofs.Common.{length-append, arith}
use Rattle.wal_run.proofs.PieceLaws.{wrong_at_on}
use Rattle.wal_run.proofs.pieces.feed_piece.Goals as goal

pub returns-in-Some : goal.returns-in-Some
returns-in-Some g c = record {
  feeds = λ id stream stands few. wrong_at_on c.in-Some.place stream c.args.piece.now (rw c.in-Some.is at stands);
}

pub returns-in-Err-Malformed : goal.returns-in-Err-Malformed
returns-in-Err-Malformed g c = record {
  feeds = λ id stream stands few.
      let fed =
      rw c.in-Err-Malformed.field-0-is at (c.in-Err-Malformed.ensures.feeds id stream (rw c.in-None.is at stands)) in
      fed.0;
}

pub returns-in-Err-TooLong : goal.returns-in-Err-TooLong
returns-in-Err-TooLong g c = record {
  feeds = λ id stream stands few.
      let long =
      rw c.in-Err-TooLong.field-0-is at (c.in-Err-TooLong.ensures.feeds id stream (rw c.in-None.is at stands)) in
      absurd (omega (arith, long, few, length-append stream c.args.piece.now));
}
