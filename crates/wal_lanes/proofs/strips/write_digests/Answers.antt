use Rattle.wal_lanes.proofs.Common.{◌≡◌, ℕ, ◌+◌, ◌*◌, List, length, refl, ap, ◌∙◌, arith, digest_bytes, lane}
use Rattle.wal_lanes.proofs.Parts.{length-put_at, part_before, parts_put_from}
use Rattle.wal_lanes.proofs.Written.{length-digest_bytes}
use Rattle.wal_lanes.proofs.strips.write_digests.Goals as goal

pub each_lane-preserved : goal.each_lane-preserved
each_lane-preserved c =
    let k = c.each_lane.k in
    let ys = digest_bytes c.lane_of.result 8 in
    let long : length ys ≡ 32 = length-digest_bytes c.lane_of.result 8 in (
      ap length c.put_words.ensures ∙ length-put_at ((c.args.first + k) * 32) c.each_lane.out ys (omega arith) ∙ c.each_lane.invariant.0,
      λ j below. part_before 32 j (c.args.first + k) ((c.args.first + k) * 32) c.each_lane.out _ ys (omega arith) refl c.put_words.ensures (omega arith) ∙ c.each_lane.invariant.1 j below,
      parts_put_from 32 c.args.first (λ (i : ℕ). digest_bytes (lane c.args.state.now i) 8) c.each_lane.out _ ys k ((c.args.first + k) * 32) refl c.put_words.ensures
          (ap (λ (h : List ℕ). digest_bytes h 8) c.lane_of.ensures) long (omega arith) c.each_lane.invariant.2,
    )
