-- Leaves of one digest collide, and else the entries above them differ and lead to one root.
use Rattle.wal_tree.proofs.Common.{◌≡◌, ◌∷◌, List, ℕ, arith, sym, rules, IsCollision, MeetOnPaths}
use Rattle.wal_tree.proofs.Collisions.{copies_too, leaves_collide, leaves_meet, ways_meet}
use Rattle.wal_tree.proofs.collide.collide_paths.Goals as goal

pub returns-then-eq-clause-collision : goal.returns-then-eq-clause-collision
returns-then-eq-clause-collision g c =
    let same : c.leaf_digest-entry_a.result ≡ c.leaf_digest-entry_b.result = search rules in
    leaves_collide g.H.Hash32.digest c.args.leaf_a.now c.args.leaf_b.now c.in_ok-left.left c.in_ok-right.right c.leaf_digest-entry_a.result c.leaf_digest-entry_b.result
    c.in_ok-left.ensures c.in_ok-right.ensures c.leaf_digest-entry_a.ensures c.leaf_digest-entry_b.ensures same c.requires.differ
    (λ i below. omega (arith, c.type_inv.leaf_a i)) (λ i below. omega (arith, c.type_inv.leaf_b i))

pub collide_nodes-requires-clause-whole : goal.collide_nodes-requires-clause-whole
collide_nodes-requires-clause-whole g c = omega (arith, c.requires.one.left.long)

pub collide_nodes-requires-clause-long : goal.collide_nodes-requires-clause-long
collide_nodes-requires-clause-long g c = omega (arith, c.requires.one.left.long, c.requires.one.right.long)

pub collide_nodes-requires-clause-one : goal.collide_nodes-requires-clause-one
collide_nodes-requires-clause-one g c =
    ways_meet g.H.Hash32.digest c.requires.one.root c.args.count c.args.place c.args.leaf_a.now c.args.path_a.now c.args.leaf_b.now c.args.path_b.now c.leaf_digest-entry_a.result c.leaf_digest-entry_b.result
    c.requires.one.left c.requires.one.right c.leaf_digest-entry_a.ensures c.leaf_digest-entry_b.ensures

pub returns-then-eq-clause-texts : goal.returns-then-eq-clause-texts
returns-then-eq-clause-texts g c =
    let same : c.leaf_digest-entry_a.result ≡ c.leaf_digest-entry_b.result = search rules in
    leaves_meet g.H.Hash32.digest c.args.place c.args.leaf_a.now c.args.path_a.now c.args.leaf_b.now c.args.path_b.now c.leaf_digest-entry_a.result c.leaf_digest-entry_b.result
    c.in_ok-left.left c.in_ok-right.right c.leaf_digest-entry_a.ensures c.leaf_digest-entry_b.ensures same c.in_ok-left.ensures c.in_ok-right.ensures

pub returns-clause-collision : goal.returns-clause-collision
returns-clause-collision g c =
    copies_too (IsCollision g.H.Hash32.digest) c.collide_nodes.result.left c.collide_nodes.result.right c.copy_clash.result c.collide_nodes.ensures.collision c.copy_clash.ensures

pub returns-clause-texts : goal.returns-clause-texts
returns-clause-texts g c =
    copies_too (λ (l : List ℕ) (r : List ℕ). MeetOnPaths g.H.Hash32.digest c.args.place c.args.leaf_a.now c.args.path_a.now c.args.leaf_b.now c.args.path_b.now l r)
    c.collide_nodes.result.left c.collide_nodes.result.right c.copy_clash.result
    (c.collide_nodes.ensures.texts (0 ∷ c.args.leaf_a.now) (0 ∷ c.args.leaf_b.now) (sym c.leaf_digest-entry_a.ensures) (sym c.leaf_digest-entry_b.ensures))
    c.copy_clash.ensures
