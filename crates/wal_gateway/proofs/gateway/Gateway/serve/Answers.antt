-- A hit.
use Rattle.wal_gateway.proofs.gateway.Gateway.serve.Goals as goal

pub returns-in-Some : goal.returns-in-Some
returns-in-Some g c = (let hit = rw c.in-Some.is at c.in_ok-answer.ensures.hit in hit c.args.payloads.now)
