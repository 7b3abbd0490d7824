use Rattle.wal_lanes.proofs.Common.{◌∷◌, ◌+◌, ◌*◌, ◌/◌, ap, arith, drop, length}
use Rattle.wal_lanes.proofs.Blocks.{tail_put}
use Rattle.wal_lanes.proofs.texts.put_tail.Goals as goal

pub returns : goal.returns
returns c =
    tail_put c.args.seen c.args.at (c.args.seen + length c.args.piece.now + 1) c.args.tails.now c.put_rest.new.tails c.put.new.out c.put-2.new.out (c.args.first ∷ c.args.piece.now) _ c.padding.result.now _
    c.requires.edge (omega arith) c.put_rest.ensures (ap (λ n. drop (n / 64 * 64) (c.args.first ∷ c.args.piece.now)) (omega arith)) c.put.ensures c.padding.ensures c.put-2.ensures c.to_be_bytes.ensures (omega arith)
