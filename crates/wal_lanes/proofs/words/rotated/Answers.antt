use Rattle.wal_lanes.proofs.Common.{bit_or, ◌-◌, ◌*◌, ◌/◌, ◌%◌, ◌^◌}
use Rattle.wal_lanes.proofs.LaneLemmas.{HasLanes-own, HasLanes-same, HasLanes-splat, HasLanes-zip2, rotation}
use Rattle.wal_lanes.proofs.words.rotated.Goals as goal

pub returns : goal.returns
returns c =
    let x = HasLanes-own c.args.x c.fits-x.0 in
    HasLanes-same
    (HasLanes-zip2 bit_or (HasLanes-zip2 (λ a b. a / 2 ^ b) x (HasLanes-splat c.args.by)) (HasLanes-zip2 (λ a b. a * 2 ^ b % 2 ^ 32) x (HasLanes-splat (32 - c.args.by))))
    (λ k l. rotation _ c.args.by c.requires.some c.requires.below)
