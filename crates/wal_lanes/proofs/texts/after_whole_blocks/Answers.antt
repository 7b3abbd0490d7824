use Rattle.wal_lanes.proofs.Common.{◌≡◌, ◌+◌, ◌/◌, slice_index, refl, arith, lane, text}
use Rattle.wal_lanes.proofs.Blocks.{hash_next, hash_none, middle_block}
use Rattle.wal_lanes.proofs.texts.after_whole_blocks.Goals as goal

pub returns-then-blocks-eq0 : goal.returns-then-blocks-eq0
returns-then-blocks-eq0 c = λ k l.
    hash_none (lane c.args.state k) (text (slice_index c.args.firsts.now k) c.args.size c.args.pieces.now k) _ _ (omega arith) refl

pub middle-preserved : goal.middle-preserved
middle-preserved c = λ k l.
    hash_next (lane c.args.state k) (text (slice_index c.args.firsts.now k) c.args.size c.args.pieces.now k) _ _ _ c.middle.block (c.middle.block + 1) (c.middle.invariant k l) (c.after_block-after.ensures k l)
    (middle_block (slice_index c.args.firsts.now k) c.args.size c.args.pieces.now k c.middle.block _ (omega arith) (omega arith) (omega arith)) refl

pub returns : goal.returns
returns c = λ k l.
    let done : c.middle.block ≡ (c.args.size + 1) / 64 = omega (arith, c.middle.auto.block-end (omega arith)) in
    rw done at (c.middle.invariant k l)
