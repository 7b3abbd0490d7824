-- How long a payload can be that still matters.
use Rattle.std.specs.Prelude.{ℕ, ◌+◌, ◌*◌}
use Rattle.wal_shape.specs.Shape.{column_count, symbol_size}
use Rattle.wal_shape.specs.Metadata.{BlobMetadata}

-- the size of the frame of a bad proof with as many openings as a primary sliver has symbols, each
-- with the longest path
abbrev pub longest_part : BlobMetadata → ℕ
longest_part metadata =
    38 + column_count metadata.f * (symbol_size metadata.f metadata.length + 327)
