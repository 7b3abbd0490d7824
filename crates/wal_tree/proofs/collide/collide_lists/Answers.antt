-- The texts that meet on the paths of the first piece that differs do so in the trees.
use Rattle.wal_tree.proofs.Common.{◌∙◌, IfOk-weaker, Collision, MeetInTrees, MeetOnPaths}
use Rattle.wal_tree.proofs.Collisions.{in_trees}
use Rattle.wal_tree.proofs.collide.collide_lists.Goals as goal

pub returns-clause-texts : goal.returns-clause-texts
returns-clause-texts g c =
    let digest = g.H.Hash32.digest in
    let place = c.first_apart-place.result in
    let x = c.piece_at.result.now in
    let p = c.bytes.result.now in
    let y = c.piece_at-2.result.now in
    let q = c.bytes-2.result.now in
    IfOk-weaker c.collide_paths.result (λ (t : Collision). MeetOnPaths digest place x p y q t.left t.right)
    (λ (t : Collision). MeetInTrees digest c.args.size c.args.a.now c.args.b.now t.left t.right)
    (λ t. in_trees digest c.args.size place c.args.a.now c.args.b.now x p y q t.left t.right c.first_apart-place.ensures.place c.first_apart-place.ensures.first
    c.first_apart-place.ensures.apart c.piece_at.ensures.piece (c.bytes.ensures ∙ c.path.ensures.siblings) c.piece_at-2.ensures.piece (c.bytes-2.ensures ∙ c.path-2.ensures.siblings))
    c.collide_paths.ensures.texts
