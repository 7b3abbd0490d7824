use Rattle.wal_run.proofs.Common.{performed}
use Rattle.wal_run.proofs.Fetches.{done_spelled, malformed_is}
use Rattle.wal_run.proofs.Says.{performs_refused}
use Rattle.wal_run.proofs.fetch.fetch_ranges.Goals as goal

pub put_fetched-requires-clause-stream : goal.put_fetched-requires-clause-stream
put_fetched-requires-clause-stream g c = c.malformed_at.ensures.whole c.in-None.is

pub returns-in-None-clause-does : goal.returns-in-None-clause-does
returns-in-None-clause-does g c =
    let of = c.malformed_at.ensures.whole c.in-None.is in
    done_spelled g.H.Hash32.digest c.args.capacity c.args.stream.now of.0 _ _ _ _ of.1 (c.put_fetched.ensures.does of.0 of.1)

pub returns-in-Some-clause-does : goal.returns-in-Some-clause-does
returns-in-Some-clause-does g c =
    let broken = rw c.in-Some.is at c.malformed_at.ensures.malformed in
    performed _ (performs_refused _ _ (λ other. malformed_is g.H.Hash32.digest c.args.capacity c.args.stream.now _ broken) c.refuse.ensures.performs)
