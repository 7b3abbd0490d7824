use Rattle.wal_lanes.proofs.Common.{bit_and, bit_xor, w32}
use Rattle.wal_lanes.proofs.ChMaj.{ch_short}
use Rattle.wal_lanes.proofs.LaneLemmas.{HasLanes-own, HasLanes-same, HasLanes-zip2, lane_fits}
use Rattle.wal_lanes.proofs.words.ch.Goals as goal

pub returns : goal.returns
returns c =
    let x = HasLanes-own c.args.x c.fits-x.0 in
    let y = HasLanes-own c.args.y c.fits-y.0 in
    let z = HasLanes-own c.args.z c.fits-z.0 in
    HasLanes-same (HasLanes-zip2 bit_xor z (HasLanes-zip2 bit_and x (HasLanes-zip2 bit_xor y z)))
    (λ k l. ch_short w32 _ _ _ (lane_fits c.args.x c.fits-x.0 c.fits-x.1 k l) (lane_fits c.args.y c.fits-y.0 c.fits-y.1 k l) (lane_fits c.args.z c.fits-z.0 c.fits-z.1 k l))
