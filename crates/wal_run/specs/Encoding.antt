-- The command that writes a blob's metadata and slivers.
use Rattle.std.specs.Prelude.{◌≡◌, ℕ, List, length}
use Rattle.wal_shape.specs.declared.shape.Format.{Format}
use Rattle.wal_matrix.specs.Matrix.{IsExtended}
use Rattle.wal_run.specs.Command.{Command, bare, bytes, most_input}
use Rattle.wal_run.specs.Envelope.{encoded_text}

-- all envelopes of the blob's extended matrix
abbrev pub encoding : (List ℕ → List ℕ) → ℕ → Format → Command
encoding digest f format = record (bare most_input bytes) {
  Succeeds = λ blob text. (extended : List ℕ) × IsExtended f blob extended
      × (text
      ≡ encoded_text digest (record { format = format; f = f; length = length blob }) extended);
}
