use Rattle.wal_kernel.proofs.LaneLemmas.{high_nibbles, high_nibble_small, SwzOk-nibbles, HasLanes-look_up}
use Rattle.wal_kernel.proofs.lanes.by_high.Goals as goal

pub swizzle : goal.swizzle
swizzle c = SwzOk-nibbles _ _ (high_nibbles c.args.lanes c.fits-lanes.0) (high_nibble_small c.args.lanes c.fits-lanes.0 c.fits-lanes.1)

pub returns : goal.returns
returns c f holds = HasLanes-look_up _ _ (high_nibbles c.args.lanes c.fits-lanes.0) (high_nibble_small c.args.lanes c.fits-lanes.0 c.fits-lanes.1) f c.args.table holds
