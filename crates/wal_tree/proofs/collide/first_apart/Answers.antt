use Rattle.wal_tree.proofs.Common.{◌≡◌, ◌∙◌, sym, rules}
use Rattle.wal_tree.proofs.Collisions.{pieces_step}
use Rattle.wal_tree.proofs.collide.first_apart.Goals as goal

pub loop-place-preserved : goal.loop-place-preserved
loop-place-preserved c =
    let same : c.piece_at.result.now ≡ c.piece_at-in-loop-place.result.now = search rules in
    pieces_step c.loop-place.place c.args.size c.args.a.now c.args.b.now c.loop-place.invariant
    (sym c.piece_at.ensures.piece ∙ same ∙ c.piece_at-in-loop-place.ensures.piece)
