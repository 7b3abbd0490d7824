-- The command that recovers a sliver from recorded openings.
use Rattle.std.specs.Prelude.{◌≡◌, ℕ, ◌<◌, List, length}
use Rattle.wal_shape.specs.declared.axis.Axis.{Axis}
use Rattle.wal_shape.specs.declared.metadata.BlobId.{BlobId}
use Rattle.wal_shape.specs.declared.opening.Opening.{Opening}
use Rattle.wal_shape.specs.Shape.{sliver_symbols}
use Rattle.wal_shape.specs.EncodingProof.{EncodingProof}
use Rattle.wal_evidence.specs.BadProof.{IsBadProof}
use Rattle.wal_frame.specs.Frame.{Proof, envelope, frame_text, sliver_frame}
use Rattle.wal_reader.specs.Carried.{openings_in}
use Rattle.wal_recover.specs.declared.outcome.Recovered.TheVariants.{Sliver}
use Rattle.wal_recover.specs.Recovery.{OpeningsComeTo, Takes}
use Rattle.wal_run.specs.Command.{Command, Recorded, bare, envelopes_of}
use Rattle.wal_run.specs.Lines.{short_text}

-- openings as a proof of bad encoding of this sliver
abbrev pub proof_of : Axis → ℕ → List Opening → EncodingProof
proof_of axis index openings = record { axis = axis; index = index; openings = openings }

-- the openings of the sliver that are taken: held ones of distinct crosses, in order
abbrev pub TakesOpenings : (List ℕ → List ℕ) → BlobId → Axis → ℕ → Recorded → List Opening → Type 0
TakesOpenings digest id axis index recorded taken =
    Takes digest recorded.metadata axis index (openings_in id.0 axis index recorded.payloads)
    (sliver_symbols axis recorded.metadata.f) taken

-- the result of the openings; the sender of an envelope is the index
abbrev pub recovering : (List ℕ → List ℕ) → BlobId → Axis → ℕ → Command
recovering digest id axis index = record (bare 134217728 (envelopes_of id)) {
  -- the envelope of the sliver
  Succeeds = λ recorded text. (sliver : List ℕ)
      × OpeningsComeTo digest recorded.metadata axis index
      (openings_in id.0 axis index recorded.payloads) (Sliver sliver)
      × (text ≡ envelope index (sliver_frame id.0 axis index sliver));
  -- the openings that were taken are a proof of bad encoding, and its envelope
  Rejects = λ recorded text. (taken : List Opening)
      × TakesOpenings digest id axis index recorded taken
      × IsBadProof digest recorded.metadata (proof_of axis index taken)
      × (text ≡ envelope index (frame_text (Proof id.0 (proof_of axis index taken))));
  -- held openings of distinct crosses: there are only so many
  Lacks = λ recorded text. (taken : List Opening)
      × TakesOpenings digest id axis index recorded taken
      × (length taken < sliver_symbols axis recorded.metadata.f)
      × (text ≡ short_text (length taken) (sliver_symbols axis recorded.metadata.f));
}
