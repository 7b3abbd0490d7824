-- A hit.
use Rattle.wal_gateway.proofs.Common.{asked}
use Rattle.wal_gateway.proofs.Sound.{used_invariant, used_shown}
use Rattle.wal_gateway.proofs.Endings.{ends_hit}
use Rattle.wal_gateway.proofs.gateway.Gateway.hit.Goals as goal

pub invariant_of-self : goal.invariant_of-self
invariant_of-self g c = used_invariant g.H.Hash32.digest c.self.inside.blobs c.promote.new.self c.args.id.now c.self.invariant c.promote.ensures.entries

pub returns-in-Some-clause-hit : goal.returns-in-Some-clause-hit
returns-in-Some-clause-hit g c = λ payloads.
    let get = asked c.args.id.now c.args.from c.args.size payloads in
    let new = c.promote.new.self in
    ends_hit g.H.Hash32.digest c.args.self.now get c.in_ok-found.field-0 c.in-Some.found (record { pairs = new.entries; capacity = new.cap }) c.in-Some.is c.in_ok-found.ensures
    (λ blob kept. used_shown c.self.inside.blobs new c.args.self.now c.args.id.now blob c.self.view_is kept c.promote.ensures.entries)
