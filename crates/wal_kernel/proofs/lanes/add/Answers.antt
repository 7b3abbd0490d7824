use Rattle.wal_kernel.proofs.Common.{bit_xor}
use Rattle.wal_kernel.proofs.LaneLemmas.{HasLanes-zip2, HasLanes-sum, stored}
use Rattle.wal_kernel.proofs.lanes.add.Goals as goal

pub returns : goal.returns
returns c f old lanes sum =
    stored f old c.args.dst.now _ c.args.at c.requires
    (HasLanes-sum (HasLanes-zip2 32 bit_xor c.load.result c.args.lanes c.load.ensures.long c.fits-lanes.0) c.load.ensures lanes) sum
