use Rattle.wal_lanes.proofs.Common.{bit_xor, ◌/◌, ◌^◌}
use Rattle.wal_lanes.proofs.LaneLemmas.{HasLanes-own, HasLanes-splat, HasLanes-zip2}
use Rattle.wal_lanes.proofs.words.small_sigma1.Goals as goal

pub returns : goal.returns
returns c =
    HasLanes-zip2 bit_xor (HasLanes-zip2 bit_xor c.rotated.ensures c.rotated-2.ensures)
    (HasLanes-zip2 (λ a b. a / 2 ^ b) (HasLanes-own c.args.x c.fits-x.0) (HasLanes-splat 10))
