-- The command that writes a blob's identifier.
use Rattle.std.specs.Prelude.{◌≡◌, ℕ, List, [], ◌∷◌, ◌++◌}
use Rattle.hex.specs.Hex.{encode_lower}
use Rattle.wal_shape.specs.declared.shape.Format.{Format}
use Rattle.wal_commit.specs.Identifier.{IsIdentifierOf}
use Rattle.wal_run.specs.Command.{Command, bare, bytes, most_input}

-- the identifier in lower-case digits, and a newline
abbrev pub identifying : (List ℕ → List ℕ) → ℕ → Format → Command
identifying digest f format = record (bare most_input bytes) {
  Succeeds = λ blob text. (id : List ℕ) × IsIdentifierOf digest format f blob id
      × (text ≡ encode_lower id ++ 10 ∷ []);
}
