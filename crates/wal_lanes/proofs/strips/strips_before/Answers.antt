use Rattle.wal_lanes.proofs.Common.{◌-◌, ◌/◌}
use Rattle.wal_lanes.proofs.Taken.{blocks_before}
use Rattle.wal_lanes.proofs.strips.strips_before.Goals as goal

pub returns-clause-edge : goal.returns-clause-edge
returns-clause-edge c = blocks_before ((c.args.size - 1) / c.args.width) c.args.width c.requires.blocks
