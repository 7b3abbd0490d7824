use Rattle.wal_kernel.proofs.Common.{◌≡◌, ◌+◌, ◌*◌, arith, slice_index}
use Rattle.wal_kernel.proofs.Sums.{none_added}
use Rattle.wal_kernel.proofs.blocks.add_vectors.Goals as goal

pub loop-vector-init : goal.loop-vector-init
loop-vector-init c = none_added _ _ (λ k. omega (arith, c.type_inv.dst k))

pub loop-vector-preserved : goal.loop-vector-preserved
loop-vector-preserved c =
    let end : 32 * c.loop-vector.vector + 32 ≡ 32 * (c.loop-vector.vector + 1) = omega arith in
    rw end at (c.add.ensures (λ k. slice_index c.args.src.now k) c.args.dst.now c.load.ensures c.loop-vector.invariant)
