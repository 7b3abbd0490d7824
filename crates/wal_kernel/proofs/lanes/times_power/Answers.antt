use Rattle.wal_kernel.proofs.Common.{ℕ, ◌*◌, ◌^◌, ◌%◌}
use Rattle.wal_kernel.proofs.LaneLemmas.{HasLanes-splat}
use Rattle.wal_kernel.proofs.lanes.times_power.Goals as goal

pub returns : goal.returns
returns c = HasLanes-splat (λ (a b : ℕ). a * 2 ^ b % 256) c.args.lanes c.args.power c.fits-lanes.0
