use Rattle.wal_tree.proofs.Common.{◌≡◌, ℕ, ◌*◌, List, ap, ◌∙◌, arith, pair_up, pieces}
use Rattle.wal_tree.proofs.LevelPairs.{pieces-front, pieces-put}
use Rattle.wal_tree.proofs.upwards.go_up.Goals as goal

pub returns-clause-above : goal.returns-clause-above
returns-clause-above g c =
    let digest = g.H.Hash32.digest in
    let pairs = c.complete-pairs.result in
    let level = c.complete-pairs.new.level in
    let above = c.join_pairs.new.above in
    let all : pairs * 64 ≡ 2 * pairs * 32 = omega arith in
    ap (λ (l : List ℕ). pieces pairs 32 l) c.put.ensures.put
    ∙ pieces-put pairs level above c.join_pairs.ensures.room
    ∙ c.join_pairs.ensures.joined
    ∙ ap (pair_up digest) (pieces-front (2 * pairs) 32 (pairs * 64) level all)
    ∙ c.complete-pairs.ensures.same digest
