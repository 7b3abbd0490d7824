-- What serves private functions and proofs beside Recovering.
use Rattle.std.specs.Prelude.{ℕ, ◌≤◌, List, length, ⊤}
use Rattle.wal_shape.specs.declared.axis.Axis.{Axis}
use Rattle.wal_shape.specs.Shape.{sliver_symbols, most_bytes}
use Rattle.wal_shape.specs.EncodingProof.{IsProof}
use Rattle.wal_shape.specs.Spelling.{proof_text}
use Rattle.wal_frame.specs.Frame.{Proof, envelope, frame_text, sliver_frame}
use Rattle.wal_recover.specs.declared.outcome.Recovered.{Recovered}
use Rattle.wal_recover.specs.declared.outcome.Recovered.TheVariants.{Inconsistent, Short, Sliver}
use Rattle.wal_run.specs.Lines.{short_text}

abbrev pub recovered_status : Recovered → ℕ
recovered_status (Sliver bytes) = 0
recovered_status (Inconsistent proof) = 3
recovered_status (Short count) = 4

-- the envelope of the sliver, or of the proof that it was encoded badly, with the index as its
-- sender
abbrev pub recovered_text : List ℕ → ℕ → Axis → ℕ → Recovered → List ℕ
recovered_text id f axis index (Sliver bytes) = envelope index (sliver_frame id axis index bytes)
recovered_text id f axis index (Inconsistent proof) = envelope index (frame_text (Proof id proof))
recovered_text id f axis index (Short count) = short_text count (sliver_symbols axis f)

-- the result of openings fits in an envelope: neither a sliver nor a proof is too long
abbrev pub Fits : Recovered → Type 0
Fits (Sliver bytes) = length bytes ≤ most_bytes
Fits (Inconsistent proof) = IsProof proof → length (proof_text proof) ≤ 33554432
Fits (Short count) = ⊤
