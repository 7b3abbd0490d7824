use Rattle.wal_kernel.proofs.Common.{◌*◌, ◌+◌, arith, length-drop, scaled_byte}
use Rattle.wal_kernel.proofs.LaneLemmas.{part_added}
use Rattle.wal_kernel.proofs.Sums.{scaled_byte-part, none_added}
use Rattle.wal_kernel.proofs.blocks.add_scaled_rest.Goals as goal

pub returns : goal.returns
returns c by old products sum =
    part_added (scaled_byte by c.args.src.now) (scaled_byte by c.padded-words.result) old c.args.dst.now c.padded-sums.result c.add_scaled_block.new.dst _ _ (64 * c.args.block)
    c.requires.starts c.padded-sums.ensures.long c.requires.ends c.padded-sums.ensures.bytes
    (scaled_byte-part by c.args.block c.args.src.now c.padded-words.result c.padded-words.ensures.bytes)
    (c.add_scaled_block.ensures by c.padded-sums.result products (none_added _ _ (λ k. omega (arith, c.padded-sums.ensures.bytes k, sum.above (64 * c.args.block + k) (omega arith), sum.bytes (64 * c.args.block + k)))))
    c.copy_from_slice.ensures.after (simp length-drop (omega arith)) sum
