use Rattle.wal_reader.proofs.Common.{rules, metadata_shown}
use Rattle.wal_reader.proofs.Collections.{collects_passed, collects_taken, collects_unwanted}
use Rattle.wal_reader.proofs.collecting.add_sliver.Goals as goal

pub returns-in_ok-extend_from_slice-clause-added : goal.returns-in_ok-extend_from_slice-clause-added
returns-in_ok-extend_from_slice-clause-added g c = λ payloads was.
    let sliver = c.in-Some.sliver in
    let old = c.args.collected.now in
    collects_taken g.H.Hash32.digest c.args.id.now.0 (metadata_shown c.args.m) payloads c.args.payload.now
    old.indices.items old.joined.items sliver.index sliver.bytes.now c.push.new.self.items
    c.extend_from_slice.new.self.items (search rules) (c.in-Some.ensures.some, search rules) (search rules)
    (search rules) (search rules) was

pub returns-else-is_wanted-clause-added : goal.returns-else-is_wanted-clause-added
returns-else-is_wanted-clause-added g c = λ payloads was.
    let sliver = c.in-Some.sliver in
    let old = c.args.collected.now in
    collects_unwanted g.H.Hash32.digest c.args.id.now.0 (metadata_shown c.args.m) payloads c.args.payload.now
    old.indices.items old.joined.items sliver.index sliver.bytes.now c.in-Some.ensures.some (search rules) was

pub returns-in_default-clause-added : goal.returns-in_default-clause-added
returns-in_default-clause-added g c = λ payloads was.
    let old = c.args.collected.now in
    collects_passed g.H.Hash32.digest c.args.id.now.0 (metadata_shown c.args.m) payloads c.args.payload.now
    old.indices.items old.joined.items
    (λ index bytes short carries. absurd (c.in_default.ensures.none index bytes carries.0)) was
