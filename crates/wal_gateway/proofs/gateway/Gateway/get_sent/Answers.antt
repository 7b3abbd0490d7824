-- A hit, whatever was sent.
use Rattle.wal_gateway.proofs.gateway.Gateway.get_sent.Goals as goal

pub returns-in-Some : goal.returns-in-Some
returns-in-Some g c = λ payloads is. (let hit = rw c.in-Some.is at c.in_ok-answer.ensures.hit in hit payloads)
