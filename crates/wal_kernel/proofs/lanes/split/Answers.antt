use Rattle.wal_kernel.proofs.lanes.split.Goals as goal

pub returns-clause-high : goal.returns-clause-high
returns-clause-high c = c.high_and_low.ensures.high c.args.bytes.now c.args.at c.load.ensures c.load-2.ensures

pub returns-clause-low : goal.returns-clause-low
returns-clause-low c = c.high_and_low.ensures.low c.args.bytes.now c.args.at c.load.ensures c.load-2.ensures
