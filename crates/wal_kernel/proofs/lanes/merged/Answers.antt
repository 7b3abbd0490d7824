use Rattle.wal_kernel.proofs.Common.{◌+◌, arith}
use Rattle.wal_kernel.proofs.LaneLemmas.{HasLanes-by_turns}
use Rattle.wal_kernel.proofs.lanes.merged.Goals as goal

pub returns-clause-first : goal.returns-clause-first
returns-clause-first c f at highs lows = HasLanes-by_turns f at 0 at c.args.high c.args.low (omega arith) (omega arith) highs lows

pub returns-clause-second : goal.returns-clause-second
returns-clause-second c f at highs lows = HasLanes-by_turns f at 16 (at + 32) c.args.high c.args.low (omega arith) (omega arith) highs lows
