use Rattle.wal_lanes.proofs.Common.{◌≡◌, ℕ, ◌+◌, ◌*◌, List, ap, ◌∙◌, refl, arith, digest_bytes, sha256}
use Rattle.wal_lanes.proofs.Parts.{piece_within}
use Rattle.wal_lanes.proofs.Written.{are_fewer, are_more, length-digest_bytes, text_within}
use Rattle.wal_lanes.proofs.pieces.write_lanes.Goals as goal

pub each_lane-init : goal.each_lane-init
each_lane-init c done more are = are_fewer sha256 c.args.prefix c.args.size c.args.content.now c.args.out.now _ done (omega arith) are

pub each_lane-preserved : goal.each_lane-preserved
each_lane-preserved c done more are =
    let next : c.args.first + c.each_lane.k + 1 ≡ c.args.first + (c.each_lane.k + 1) = omega arith in
    let digest = ap (λ (h : List ℕ). digest_bytes h 8) c.lane_of.ensures ∙ c.hash_lanes-state.ensures c.each_lane.k (omega arith)
    ∙ ap sha256 (text_within c.args.prefix c.args.size c.args.content.now _ c.args.first c.args.lanes c.each_lane.k (omega arith) c.pieces.ensures.pieces) in
    rw next at (are_more sha256 c.args.prefix c.args.size c.args.content.now c.each_lane.out c.put_words.new.out _ ((c.args.first + c.each_lane.k) * 32) (c.args.first + c.each_lane.k) (c.each_lane.invariant done more are) c.put_words.ensures refl
    (omega arith) (length-digest_bytes c.lane_of.result 8) digest)

pub returns : goal.returns
returns c done more are =
    let end : c.args.first + c.each_lane.k ≡ c.args.first + c.args.lanes = omega arith in
    rw end at (c.each_lane.invariant done more are)

pub hash_lanes-state-requires-clause-small : goal.hash_lanes-state-requires-clause-small
hash_lanes-state-requires-clause-small c = omega (arith, piece_within 0 c.args.lanes c.args.size (c.args.lanes * c.args.size) c.requires.some refl, c.pieces.ensures.long)
