use Rattle.wal_lanes.proofs.Common.{arith, padding-take}
use Rattle.wal_lanes.proofs.texts.padding.Goals as goal

pub returns : goal.returns
returns c = padding-take 0x80 0 c.args.zeros (omega arith)
