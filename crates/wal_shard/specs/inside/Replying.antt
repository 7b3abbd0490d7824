-- What serves private functions and proofs beside Replying.
use Rattle.std.specs.Prelude.{ℕ, ◌+◌, ◌*◌}
use Rattle.wal_shape.specs.Shape.{shard_count, column_count, symbol_size, most_bytes}

-- the room for the longest metadata and for the longest proof, each in an envelope
abbrev pub metadata_room : ℕ → ℕ
metadata_room f = 19 + 64 * shard_count f

abbrev pub proof_room : ℕ → ℕ
proof_room f = 45 + column_count f * (symbol_size f most_bytes + 327)
