use Rattle.wal_kernel.proofs.Common.{arith}
use Rattle.wal_kernel.proofs.Sums.{region_sum}
use Rattle.wal_kernel.proofs.add_region.Goals as goal

pub returns : goal.returns
returns c =
    region_sum c.args.dst.now c.args.src.now _ (λ k. omega (arith, c.type_inv.src k)) _ (omega arith)
    (c.add_from.ensures c.args.dst.now c.add_vectors-start.ensures.sum)
