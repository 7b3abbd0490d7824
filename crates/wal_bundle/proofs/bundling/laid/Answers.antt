use Rattle.wal_bundle.proofs.Common.{◌*◌, bundle_text, column_bytes}
use Rattle.wal_bundle.proofs.IndexTexts.{text_long}
use Rattle.wal_bundle.proofs.Room.{size_positive}
use Rattle.wal_bundle.proofs.bundling.laid.Goals as goal

pub block_of_columns-requires-clause-columns : goal.block_of_columns-requires-clause-columns
block_of_columns-requires-clause-columns c =
    let s = 2 * c.args.half in
    rw (c.deref-2.ensures.value, c.in_ok-columns.ensures, c.used_columns-used.ensures, c.requires.lengths)
    (rw c.from.ensures (text_long (column_bytes c.args.f s) _ (size_positive c.args.f s c.requires.size.positive)))

pub returns : goal.returns
unfolding bundle_text
returns c =
    rw (c.from_vec.ensures, c.in_ok-block.ensures.block, c.deref-2.ensures.value, c.in_ok-columns.ensures)
    (rw (c.used_columns-used.ensures, c.requires.lengths, c.from.ensures))
