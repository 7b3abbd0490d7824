-- The symbols of twelve bytes for one fault are words.
use Rattle.std.proofs.Common.{◌≡◌, ℕ, ◌*◌, refl}
use Rattle.wal_shape.specs.Shape.{row_count, shard_count, symbol_size}

pub four_words : shard_count 1 * symbol_size 1 12 ≡ 8
unfolding symbol_size
four_words = refl

pub two_words : row_count 1 * symbol_size 1 12 ≡ 4
unfolding symbol_size
two_words = refl
