use Rattle.wal_shard.proofs.Common.{rules, ◌≡◌, Some, IsTrue, nat_eq, metadata_shown, part_of, parts_at}
use Rattle.wal_shard.proofs.HeldLaws.{held_verifies, sliver_verified, sliver_misplaced}
use Rattle.wal_shard.proofs.shard.Shard.sliver_verifies_in.Goals as goal

pub returns-then-holds_bytes-clause-verifies : goal.returns-then-holds_bytes-clause-verifies
returns-then-holds_bytes-clause-verifies g c =
    let x = c.args.sliver.now in
    let p = parts_at c.args.self.now.contents c.args.id.now in
    let held : part_of p c.sliver_part-part.result ≡ Some x.bytes.now = search rules in
    let there = rw c.sliver_part-part.ensures at held in
    let verifies = held_verifies _ _ _ _ _ (metadata_shown c.held_metadata-m.result) x.axis x.index x.bytes.now
    (c.sound.ensures.sound c.args.id.now) c.held_metadata-m.ensures (search rules) there in
    ((λ t. verifies), (λ w. c.if-holds_bytes.true))

pub returns-else-holds_bytes-clause-verifies : goal.returns-else-holds_bytes-clause-verifies
returns-else-holds_bytes-clause-verifies g c =
    let x = c.args.sliver.now in
    let m = metadata_shown c.held_metadata-m.result in
    sliver_verified _ _ _ _ _ m x.axis x.index x.bytes.now _ c.held_metadata-m.ensures (search rules)
    c.sliver_holds.ensures.holds

pub returns-else-sliver-held-clause-verifies : goal.returns-else-sliver-held-clause-verifies
returns-else-sliver-held-clause-verifies g c =
    let x = c.args.sliver.now in
    let m = metadata_shown c.held_metadata-m.result in
    let no : IsTrue (nat_eq x.index c.held.result) → ⊥ = search rules in
    let misplaced = sliver_misplaced _ _ _ _ _ m x.axis x.index x.bytes.now c.held_metadata-m.ensures (search rules) in
    ((λ t. absurd (no t)), (λ w. absurd (misplaced w)))
