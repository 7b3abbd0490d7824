use Rattle.wal_kernel.proofs.LaneLemmas.{HasLanes-chunk}
use Rattle.wal_kernel.proofs.lanes.load.Goals as goal

pub returns : goal.returns
returns c = HasLanes-chunk 32 _ _ c.requires
