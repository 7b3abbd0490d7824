-- The command that reads a blob back from recorded envelopes.
use Rattle.std.specs.Prelude.{◌≡◌, ℕ, List, codes, Some}
use Rattle.wal_shape.specs.declared.metadata.BlobId.{BlobId}
use Rattle.wal_shape.specs.Shape.{row_count}
use Rattle.wal_evidence.specs.declared.evidence.Evidence.{Evidence}
use Rattle.wal_reader.specs.Carried.{NoBadProof}
use Rattle.wal_reader.specs.Outcome.{HasEvidence, HoldsFew, IsOutcome}
use Rattle.wal_reader.specs.declared.outcome.Outcome.TheVariants.{Bytes, Reject}
use Rattle.wal_run.specs.Command.{Command, bare, envelopes_of}
use Rattle.wal_run.specs.Lines.{short_text}

-- the result of reading the payloads
abbrev pub reading : (List ℕ → List ℕ) → BlobId → Command
reading digest id = record (bare 134217728 (envelopes_of id)) {
  -- the blob as it is
  Succeeds = λ recorded text. IsOutcome digest id.0 recorded.payloads (Bytes text);
  -- a rejection, with its evidence in the payloads
  Rejects = λ recorded text. (evidence : Evidence) × IsOutcome digest id.0 recorded.payloads Reject
      × HasEvidence digest id.0 recorded.payloads Reject (Some evidence)
      × (text ≡ codes "reject\n");
  -- held slivers: there are only so many, and no bad proof
  Lacks = λ recorded text. (have : ℕ)
      × HoldsFew digest id.0 recorded.metadata recorded.payloads have
      × NoBadProof digest id.0 recorded.metadata recorded.payloads
      × (text ≡ short_text have (row_count recorded.metadata.f));
}
