use Rattle.wal_lanes.proofs.Common.{◌≡◌, ℕ, ◌+◌, ◌*◌, length, take, drop, ap, ◌∙◌, refl, arith}
use Rattle.wal_lanes.proofs.Parts.{length-put_at, parts_put, piece_within}
use Rattle.wal_lanes.proofs.texts.after_block.Goals as goal

pub part-requires : goal.part-requires
part-requires c = omega (arith, c.requires.within, piece_within c.each_block.k c.args.lanes c.args.size _ (omega arith) c.requires.long)

pub each_block-preserved : goal.each_block-preserved
each_block-preserved c =
    let place = λ (j : ℕ). take 64 (drop (c.args.place + j * c.args.size) c.args.pieces.now) in
    let same : c.each_block.k * c.args.size + c.args.place ≡ c.args.place + c.each_block.k * c.args.size = omega arith in (
      ap length c.put.ensures ∙ length-put_at (c.each_block.k * 64) c.each_block.copies c.part.result.now (omega (arith, c.part.ensures.long)) ∙ c.each_block.invariant.0,
      parts_put 64 place c.each_block.copies _ c.part.result.now c.each_block.k (c.each_block.k * 64) refl c.put.ensures
          (c.part.ensures.part ∙ ap (λ (n : ℕ). take 64 (drop n c.args.pieces.now)) same) c.part.ensures.long (omega arith) c.each_block.invariant.1,
    )

pub returns : goal.returns
returns c = λ k l.
    let at : 0 + k * 64 ≡ k * 64 = omega arith in
    rw (c.compress-2.ensures k (omega arith), at, c.each_block.invariant.1 k (omega arith))
