use Rattle.std.proofs.Common.{◌≡◌, ◌*◌, ℕ, sym, ap₂, ◌∙◌}
use Rattle.wal_shape.specs.Shape.{row_count, shard_count, symbol_size}
use Rattle.test_codes.proofs.Symbols.{four_words, two_words}
use Rattle.test_codes.proofs.matrix.has_last_column.Goals as goal

pub column-requires-clause-room : goal.column-requires-clause-room
column-requires-clause-room c =
    let is = c.in_ok-matrix.ensures in sym (ap₂ (λ (f long : ℕ). shard_count f * symbol_size f long) is.0 is.1 ∙ four_words)

pub secondary-requires-clause-room : goal.secondary-requires-clause-room
secondary-requires-clause-room c =
    let is = c.in_ok-matrix.ensures in sym (ap₂ (λ (f long : ℕ). row_count f * symbol_size f long) is.0 is.1 ∙ two_words)
