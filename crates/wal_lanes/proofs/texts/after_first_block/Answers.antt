use Rattle.wal_lanes.proofs.Common.{◌≡◌, ℕ, List, ◌+◌, ◌*◌, ◌∷◌, take, drop, length, slice_index, ap, ◌∙◌, refl, arith, length-take-le, lane, text}
use Rattle.wal_lanes.proofs.Parts.{length-put_at, parts_put, piece_within}
use Rattle.wal_lanes.proofs.Blocks.{hash_next, hash_none}
use Rattle.wal_lanes.proofs.texts.after_first_block.Goals as goal

pub part-requires : goal.part-requires
part-requires c = piece_within c.each_first.k c.args.lanes c.args.size _ (omega arith) c.requires.long

pub each_first-preserved : goal.each_first-preserved
each_first-preserved c =
    let first = slice_index c.args.firsts.now c.each_first.k in
    let block : List ℕ = take 64 (first ∷ c.part.result.now) in
    let long : length block ≡ 64 = length-take-le 64 (first ∷ c.part.result.now) (omega (arith, c.part.ensures.long)) in (
      ap length c.put_first.ensures ∙ length-put_at (c.each_first.k * 64) c.each_first.fronts block (omega arith) ∙ c.each_first.invariant.0,
      parts_put 64 (λ (j : ℕ). take 64 (text (slice_index c.args.firsts.now j) c.args.size c.args.pieces.now j)) c.each_first.fronts _ block c.each_first.k (c.each_first.k * 64) refl c.put_first.ensures
          (ap (λ (l : List ℕ). take 64 (first ∷ l)) c.part.ensures.part) long (omega arith) c.each_first.invariant.1,
    )

pub returns : goal.returns
returns c = λ k l.
    let m : List ℕ = text (slice_index c.args.firsts.now k) c.args.size c.args.pieces.now k in
    let at : 0 + k * 64 ≡ k * 64 = omega arith in
    hash_next (lane c.args.state k) m _ _ _ 0 1 (hash_none (lane c.args.state k) m _ 0 refl refl) (c.compress.ensures k (omega arith))
    (ap (λ (n : ℕ). take 64 (drop n c.each_first.fronts)) at ∙ c.each_first.invariant.1 k (omega arith)) refl
