use Rattle.wal_kernel.proofs.Common.{arith}
use Rattle.wal_kernel.proofs.Sums.{scaled_sum}
use Rattle.wal_kernel.proofs.add_scaled.Goals as goal

pub returns-else-dst-lt-SHORT : goal.returns-else-dst-lt-SHORT
returns-else-dst-lt-SHORT c = scaled_sum c.args.c.0 c.args.dst.now c.args.src.now _ _ (omega arith) c.add_scaled_blocks.ensures
