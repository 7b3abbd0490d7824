-- What serves private functions and proofs beside Challenging.
use Rattle.std.specs.Prelude.{◌≡◌, ℕ, ◌+◌, ◌<◌, ◌≤◌, List, Option, length}
use Rattle.wal_shape.specs.declared.axis.Axis.TheVariants.{Primary, Secondary}
use Rattle.wal_shape.specs.declared.opening.Opening.{Opening}
use Rattle.wal_shape.specs.Metadata.{BlobMetadata}
use Rattle.wal_shape.specs.Shape.{symbol_size}
use Rattle.wal_frame.specs.Buffer.{Buffer}
use Rattle.wal_challenge.specs.Answer.{AreWordsOf, OwnWords, ShowsDrawn, draw_of}
use Rattle.wal_challenge.specs.Verdict.{claim_of}
use Rattle.wal_words.specs.declared.task.Audit.{Audit}
use Rattle.wal_run.specs.Challenging.{HasShard, IsAnswerText, IsOwnSliver, claim_envelope}
use Rattle.wal_run.specs.Command.{Recorded}
use Rattle.wal_run.specs.inside.Writing.{Does}

-- the envelope of what the shard answers to a draw
abbrev pub IsAnswer : (List ℕ → List ℕ) → Audit → BlobMetadata → List ℕ → List ℕ → ℕ → List ℕ
    → Type 0
IsAnswer digest audit metadata primary secondary draw piece =
    (opening : Opening)
    × ShowsDrawn digest metadata audit.shard primary secondary
    (draw_of digest metadata audit.beacon audit.shard draw) opening
    × (piece
    ≡ claim_envelope audit (claim_of digest metadata audit.beacon audit.shard draw opening))

-- how the answer of the shard is written
abbrev pub DoesAnswer : (List ℕ → List ℕ) → Audit → BlobMetadata → List ℕ → List ℕ → Option (List ℕ)
    → Option (List ℕ) → Type 0 → ℕ → Type 0
DoesAnswer digest audit metadata primary secondary old new SinkRose status =
    Does (λ code text. (code ≡ 0)
    × IsAnswerText digest audit metadata primary secondary audit.count text)
    (λ text. (count : ℕ) × (count < audit.count)
    × IsAnswerText digest audit metadata primary secondary count text)
    (λ text. (count : ℕ) × (count ≤ audit.count)
    × IsAnswerText digest audit metadata primary secondary count text)
    old new SinkRose status

-- the words of the shard's first slivers among the payloads, and a buffer with room for the
-- envelope of an opening
pub record IsReady (digest : List ℕ → List ℕ) (audit : Audit)
    (recorded : Recorded) (words : OwnWords) (out : Buffer) : Type 0 where
  pub shard : HasShard audit recorded
  pub primary : List ℕ
  pub primary_own : IsOwnSliver digest audit recorded Primary primary
  pub secondary : List ℕ
  pub secondary_own : IsOwnSliver digest audit recorded Secondary secondary
  pub words_of : AreWordsOf recorded.metadata primary secondary words
  pub room : 370 + symbol_size recorded.metadata.f recorded.metadata.length
      ≤ out.spare + length out.bytes
