use Rattle.wal_kernel.proofs.Common.{◌/◌, ◌%◌, arith, times, scaled_byte}
use Rattle.wal_kernel.proofs.ProductLemmas.{block_high, block_low, nibble}
use Rattle.wal_kernel.proofs.blocks.add_scaled_block.Goals as goal

pub returns : goal.returns
returns c by old products sum =
    let high = nibble (λ w. w / 256) in
    let low = nibble (λ w. w % 256) in
    let highs =
    c.looked_up-high_bytes.ensures (high (times by 4096)) (high (times by 256)) (high (times by 16)) (high by)
    products.nibble3.high_bytes products.nibble2.high_bytes products.nibble1.high_bytes products.nibble0.high_bytes in
    let lows =
    c.looked_up-low_bytes.ensures (low (times by 4096)) (low (times by 256)) (low (times by 16)) (low by)
    products.nibble3.low_bytes products.nibble2.low_bytes products.nibble1.low_bytes products.nibble0.low_bytes in
    c.add_merged.ensures (scaled_byte by c.args.src.now) old
    (block_high by c.args.block c.args.src.now _ _ _ (λ k. omega (arith, c.type_inv.src k)) c.split.ensures.high c.split.ensures.low highs)
    (block_low by c.args.block c.args.src.now _ _ _ (λ k. omega (arith, c.type_inv.src k)) c.split.ensures.high c.split.ensures.low lows)
    sum
