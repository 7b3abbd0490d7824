use Rattle.wal_kernel.proofs.LaneLemmas.{high_nibbles}
use Rattle.wal_kernel.proofs.lanes.high_nibbles.Goals as goal

pub returns : goal.returns
returns c = high_nibbles c.args.lanes c.fits-lanes.0
