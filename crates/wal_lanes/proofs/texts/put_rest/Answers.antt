use Rattle.wal_lanes.proofs.Common.{[], ◌∷◌, ◌+◌, ap, ◌∙◌, arith, put_at}
use Rattle.wal_lanes.proofs.Parts.{put_put}
use Rattle.wal_lanes.proofs.Blocks.{rest_long, rest_short}
use Rattle.wal_lanes.proofs.texts.put_rest.Goals as goal

pub returns-then-whole-gt0 : goal.returns-then-whole-gt0
returns-then-whole-gt0 c =
    c.put.ensures ∙ ap (put_at c.args.at c.args.tails.now) (c.part.ensures.part ∙ rest_long c.args.first c.args.piece.now _ (omega arith) (omega arith))

pub returns : goal.returns
returns c =
    c.put-3.ensures ∙ put_put c.args.at (c.args.at + 1) c.args.tails.now _ (c.args.first ∷ []) c.args.piece.now c.put-2.ensures (omega arith) (omega arith)
    ∙ ap (put_at c.args.at c.args.tails.now) (rest_short c.args.first c.args.piece.now _ (omega arith))
