use Rattle.wal_lanes.proofs.Common.{ℕ, List, [], ◌∷◌, ◌+◌, ap, ◌∙◌, arith, put_at}
use Rattle.wal_lanes.proofs.Parts.{put_put}
use Rattle.wal_lanes.proofs.texts.put_first.Goals as goal

pub returns : goal.returns
returns c =
    c.put-2.ensures ∙ put_put c.args.at (c.args.at + 1) c.args.fronts.now c.put.new.out (c.args.first ∷ []) c.part.result.now c.put.ensures (omega arith) (omega (arith, c.part.ensures.long))
    ∙ ap (λ (l : List ℕ). put_at c.args.at c.args.fronts.now (c.args.first ∷ l)) c.part.ensures.part
