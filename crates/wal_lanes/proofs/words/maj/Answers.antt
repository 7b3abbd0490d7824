use Rattle.wal_lanes.proofs.Common.{bit_and, bit_xor, slice_index}
use Rattle.wal_lanes.proofs.ChMaj.{maj_short}
use Rattle.wal_lanes.proofs.LaneLemmas.{HasLanes-own, HasLanes-same, HasLanes-zip2}
use Rattle.wal_lanes.proofs.words.maj.Goals as goal

pub returns : goal.returns
returns c =
    let x = HasLanes-own c.args.x c.fits-x.0 in
    let y = HasLanes-own c.args.y c.fits-y.0 in
    let z = HasLanes-own c.args.z c.fits-z.0 in
    HasLanes-same (HasLanes-zip2 bit_xor y (HasLanes-zip2 bit_and (HasLanes-zip2 bit_xor x y) (HasLanes-zip2 bit_xor y z)))
    (λ k l. maj_short (slice_index c.args.x k) (slice_index c.args.y k) (slice_index c.args.z k))
