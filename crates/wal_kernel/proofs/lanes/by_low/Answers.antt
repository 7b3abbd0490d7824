use Rattle.wal_kernel.proofs.Common.{arith}
use Rattle.wal_kernel.proofs.LaneLemmas.{low_nibbles, SwzOk-nibbles, HasLanes-look_up}
use Rattle.wal_kernel.proofs.lanes.by_low.Goals as goal

pub swizzle : goal.swizzle
swizzle c = SwzOk-nibbles _ _ (low_nibbles c.args.lanes c.fits-lanes.0) (λ k l. omega arith)

pub returns : goal.returns
returns c f holds = HasLanes-look_up _ _ (low_nibbles c.args.lanes c.fits-lanes.0) (λ k l. omega arith) f c.args.table holds
