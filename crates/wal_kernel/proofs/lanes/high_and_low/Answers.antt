use Rattle.wal_kernel.proofs.Common.{arith, ap, slice_index}
use Rattle.wal_kernel.proofs.LaneLemmas.{HasLanes-alternate, HasLanes-same}
use Rattle.wal_kernel.proofs.lanes.high_and_low.Goals as goal

pub returns-clause-high : goal.returns-clause-high
returns-clause-high c bytes at first second =
    HasLanes-same 32 _ _ _ (HasLanes-alternate 0 bytes c.args.first c.args.second at (omega arith) first second)
    (λ k l. ap (λ j. slice_index bytes j) (omega arith))

pub returns-clause-low : goal.returns-clause-low
returns-clause-low c bytes at first second = HasLanes-alternate 1 bytes c.args.first c.args.second at (omega arith) first second
