use Rattle.wal_commit.proofs.Common.{◌*◌, sym, ap, arith, ◌∙◌, BlobShape, shard_count, symbol_size}
use Rattle.wal_commit.proofs.roots.take_columns.Goals as goal

pub columns-requires-clause-room : goal.columns-requires-clause-room
columns-requires-clause-room g c =
    c.requires.block ∙ omega arith
    ∙ ap (λ (z : BlobShape). shard_count z.f * (c.args.width * symbol_size z.f z.length)) (sym c.requires.shape)
