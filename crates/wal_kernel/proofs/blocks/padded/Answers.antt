use Rattle.wal_kernel.proofs.Common.{refl, ◌∙◌, take_rest}
use Rattle.wal_kernel.proofs.LaneLemmas.{padded_at}
use Rattle.wal_kernel.proofs.blocks.padded.Goals as goal

pub returns-clause-bytes : goal.returns-clause-bytes
returns-clause-bytes c = padded_at c.args.bytes.now _ c.args.at _ c.requires.starts refl (c.copy_from_slice.ensures.after ∙ take_rest c.args.bytes.now c.args.at)
