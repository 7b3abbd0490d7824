use Rattle.wal_run.proofs.Common.{◌-◌, ◌++◌, length, length-append, take, ap, arith, envelope}
use Rattle.wal_gateway.proofs.RequestLaws.{before_rest}
use Rattle.wal_run.proofs.Envelopes.{Walks, walks_more}
use Rattle.wal_run.proofs.fetch.malformed_at.Goals as goal

pub loop-rest-preserved : goal.loop-rest-preserved
loop-rest-preserved c =
    let stream = c.args.stream.now in
    let before = take (length stream - length c.loop-rest.rest.now) stream in
    let front = before ++ envelope c.in-Whole.sender c.in-Whole.payload.now in
    let begins = c.in-Whole.ensures.begins in
    let more : Walks stream front c.in-Whole.later.now = walks_more stream before _ c.loop-rest.invariant.walks _ _ _ begins.0 begins.1 in
    record {
      left = omega (arith, ap length more.parts, length-append front c.in-Whole.later.now);
      walks = rw (before_rest stream front c.in-Whole.later.now more.parts) more;
    }
