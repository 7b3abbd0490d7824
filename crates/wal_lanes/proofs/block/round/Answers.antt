use Rattle.wal_lanes.proofs.Common.{ℕ, [], ◌∷◌, ap₂, slice_index}
use Rattle.wal_lanes.proofs.LaneLemmas.{own, sum_of}
use Rattle.wal_lanes.proofs.block.round.Goals as goal

pub returns : goal.returns
returns c k l =
    let s = c.args.s in
    let chosen = sum_of _ _ c.sum-chosen.ensures (sum_of _ _ c.sum.ensures (own s.h) c.big_sigma1.ensures.each) c.ch.ensures.each in
    let temp1 = sum_of _ _ c.sum-temp1.ensures (sum_of _ _ c.sum-2.ensures chosen c.splat.ensures.each) (own c.args.word) in
    let temp2 = sum_of _ _ c.sum-temp2.ensures c.big_sigma0.ensures.each c.maj.ensures.each in
    ap₂ (λ (x y : ℕ). x ∷ slice_index s.a k ∷ slice_index s.b k ∷ slice_index s.c k ∷ y ∷ slice_index s.e k ∷ slice_index s.f k ∷ slice_index s.g k ∷ [])
    (sum_of _ _ c.sum-3.ensures temp1 temp2 k l) (sum_of _ _ c.sum-4.ensures (own s.d) temp1 k l)
