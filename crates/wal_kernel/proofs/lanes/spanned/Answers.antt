use Rattle.wal_kernel.proofs.Common.{◌/◌, ◌%◌, arith}
use Rattle.wal_kernel.proofs.LaneLemmas.{HasLanes-masked, HasLanes-sum}
use Rattle.wal_kernel.proofs.lanes.spanned.Goals as goal

pub returns : goal.returns
returns c =
    HasLanes-sum c.sum-3.ensures (HasLanes-masked c.args.at_1 (λ k. k % 2) (omega arith) (λ k. omega arith))
    (HasLanes-sum c.sum-2.ensures (HasLanes-masked c.args.at_2 (λ k. k / 2 % 2) (omega arith) (λ k. omega arith))
    (HasLanes-sum c.sum.ensures (HasLanes-masked c.args.at_4 (λ k. k / 4 % 2) (omega arith) (λ k. omega arith))
    (HasLanes-masked c.args.at_8 (λ k. k / 8 % 2) (omega arith) (λ k. omega arith))))
