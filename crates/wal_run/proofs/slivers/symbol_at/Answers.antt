use Rattle.wal_run.proofs.Common.{◌+◌, ◌*◌, refl, ap, ◌∙◌, BlobShape, symbol_size, shards, symbol_bytes}
use Rattle.wal_run.proofs.ShardTexts.{symbol_of_row}
use Rattle.wal_run.proofs.slivers.symbol_at.Goals as goal

pub returns-clause-value : goal.returns-clause-value
returns-clause-value c =
    let e = c.args.encoded.now in
    let size = c.symbol_size-size.result in
    symbol_of_row (shards e) (symbol_bytes e) size (c.args.column * size) (c.args.column * size + size) e.cells c.row.result.now c.args.row c.args.column
    c.requires.column (c.symbol_size-size.ensures.value ∙ ap (λ (z : BlobShape). symbol_size z.f z.length) c.shape.ensures) c.row.ensures.value refl refl
