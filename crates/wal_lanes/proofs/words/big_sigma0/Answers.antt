use Rattle.wal_lanes.proofs.Common.{bit_xor}
use Rattle.wal_lanes.proofs.LaneLemmas.{HasLanes-zip2}
use Rattle.wal_lanes.proofs.words.big_sigma0.Goals as goal

pub returns : goal.returns
returns c = HasLanes-zip2 bit_xor (HasLanes-zip2 bit_xor c.rotated.ensures c.rotated-2.ensures) c.rotated-3.ensures
