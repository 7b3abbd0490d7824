use Rattle.wal_lanes.proofs.Common.{ℕ, add32}
use Rattle.wal_lanes.proofs.LaneLemmas.{HasLanes-own, HasLanes-zip2}
use Rattle.wal_lanes.proofs.words.sum.Goals as goal

pub returns : goal.returns
returns c = HasLanes-zip2 (λ (s t : ℕ). add32 s t) (HasLanes-own c.args.x c.fits-x.0) (HasLanes-own c.args.y c.fits-y.0)
