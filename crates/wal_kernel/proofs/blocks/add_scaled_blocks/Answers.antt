use Rattle.wal_kernel.proofs.Common.{◌≡◌, ◌+◌, ◌*◌, ◌/◌, length, arith}
use Rattle.wal_kernel.proofs.Sums.{none_added}
use Rattle.wal_kernel.proofs.blocks.add_scaled_blocks.Goals as goal

pub loop-block-init : goal.loop-block-init
loop-block-init c = none_added _ _ (λ k. omega (arith, c.type_inv.dst k))

pub loop-block-preserved : goal.loop-block-preserved
loop-block-preserved c =
    let end : 64 * c.loop-block.block + 64 ≡ 64 * (c.loop-block.block + 1) = omega arith in
    rw end at (c.add_scaled_block.ensures c.args.c.0 c.args.dst.now c.tables_of-tables.ensures c.loop-block.invariant)

pub returns-then-dst-gt0 : goal.returns-then-dst-gt0
returns-then-dst-gt0 c =
    let blocks : c.loop-block.block ≡ length c.args.dst.now / 64 = omega arith in
    let sum = rw blocks at c.loop-block.invariant in
    rw c.loop-block.auto.dst at (c.add_scaled_rest.ensures c.args.c.0 c.args.dst.now c.tables_of-tables.ensures sum)
