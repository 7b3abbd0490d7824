use Rattle.wal_kernel.proofs.Common.{bit_xor}
use Rattle.wal_kernel.proofs.LaneLemmas.{HasLanes-zip2}
use Rattle.wal_kernel.proofs.lanes.sum.Goals as goal

pub returns : goal.returns
returns c = HasLanes-zip2 32 bit_xor c.args.a c.args.b c.fits-a.0 c.fits-b.0
