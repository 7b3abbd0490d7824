-- The texts of the leaves meet, and else those that do so on their paths.
use Rattle.wal_tree.proofs.Common.{◌≡◌, ◌∷◌, ◌∙◌, List, ℕ, append-nil, ap, refl, sym, rules, path_over}
use Rattle.wal_tree.proofs.Collisions.{in_trees, leaves_meet}
use Rattle.wal_tree.proofs.collide.collide_short_lists.Goals as goal

pub returns-then-eq-clause-texts : goal.returns-then-eq-clause-texts
returns-then-eq-clause-texts g c =
    let x = c.piece_at-piece_a.result.now in
    let y = c.piece_at-piece_b.result.now in
    let p = path_over g.H.Hash32.digest c.args.size c.args.a.now c.first_apart-place.result in
    let q = path_over g.H.Hash32.digest c.args.size c.args.b.now c.first_apart-place.result in
    let same : c.leaf_digest-entry_a.result ≡ c.leaf_digest-entry_b.result = search rules in
    in_trees g.H.Hash32.digest c.args.size c.first_apart-place.result c.args.a.now c.args.b.now x p y q c.short_text-left.result c.short_text-right.result c.first_apart-place.ensures.place
    c.first_apart-place.ensures.first c.first_apart-place.ensures.apart c.piece_at-piece_a.ensures.piece refl c.piece_at-piece_b.ensures.piece refl
    (leaves_meet g.H.Hash32.digest c.first_apart-place.result x p y q c.leaf_digest-entry_a.result c.leaf_digest-entry_b.result c.short_text-left.result c.short_text-right.result
    c.leaf_digest-entry_a.ensures c.leaf_digest-entry_b.ensures same (c.short_text-left.ensures ∙ ap (λ (t : List ℕ). 0 ∷ t) (append-nil x))
    (c.short_text-right.ensures ∙ ap (λ (t : List ℕ). 0 ∷ t) (append-nil y)))

pub returns-clause-texts : goal.returns-clause-texts
returns-clause-texts g c =
    let x = c.piece_at-piece_a.result.now in
    let y = c.piece_at-piece_b.result.now in
    in_trees g.H.Hash32.digest c.args.size c.first_apart-place.result c.args.a.now c.args.b.now x c.bytes.result.now y c.bytes-2.result.now c.collide_nodes.result.left
    c.collide_nodes.result.right c.first_apart-place.ensures.place c.first_apart-place.ensures.first c.first_apart-place.ensures.apart c.piece_at-piece_a.ensures.piece
    (c.bytes.ensures ∙ c.path.ensures.siblings) c.piece_at-piece_b.ensures.piece (c.bytes-2.ensures ∙ c.path-2.ensures.siblings)
    (c.collide_nodes.ensures.texts (0 ∷ x) (0 ∷ y) (sym c.leaf_digest-entry_a.ensures) (sym c.leaf_digest-entry_b.ensures))
