-- What serves private functions and proofs beside Identifier.
use Rattle.std.specs.Prelude.{ℕ, List, ◌++◌}
use Rattle.wal_shape.specs.declared.axis.Axis.TheVariants.{Secondary}
use Rattle.wal_shape.specs.Shape.{BlobShape, shard_count, symbol_size}
use Rattle.wal_shape.specs.Metadata.{held_index}
use Rattle.wal_tree.specs.Tree.{root_over}
use Rattle.wal_matrix.specs.Matrix.{row_of, column_of}

-- the roots of the row and of the column that a shard holds, one after the other
abbrev pub pair_over : (List ℕ → List ℕ) → BlobShape → List ℕ → ℕ → List ℕ
pair_over digest shape extended shard =
    let n = shard_count shape.f in
    let size = symbol_size shape.f shape.length in
    root_over digest size (row_of n size extended shard)
    ++ root_over digest size
    (column_of n size extended (held_index shape.format shape.f Secondary shard))
