-- What a reader stands for: a stream that was fed in pieces.
use Rattle.std.specs.Prelude.{◌≡◌, ℕ, ◌<◌, ◌≤◌, List, ◌++◌, length, Option, None, Some, Result, Ok}
use Rattle.std.specs.Prelude.{Err}
use Rattle.wal_shape.specs.Metadata.{BlobMetadata}
use Rattle.wal_frame.specs.Stream.{IsStream, IsMalformed}
use Rattle.wal_reader.specs.Heard.{IsSettledState}
use Rattle.wal_reader.specs.Intake.{IntakeState, IsWrongAt, StandsAt}
use Rattle.wal_reader.specs.Outcome.{HasEnough, IsAnswer, IsVerdict, IsMetadataIn}
use Rattle.wal_reader.specs.declared.errors.FeedError.{FeedError}
use Rattle.wal_reader.specs.declared.errors.FeedError.TheVariants as feed
use Rattle.wal_reader.specs.declared.errors.FinishError.{FinishError}
use Rattle.wal_reader.specs.declared.errors.FinishError.TheVariants as finish
use Rattle.wal_reader.specs.declared.outcome.ReadAnswer.{ReadAnswer}

-- what was taken of the stream, and why a piece was refused, if one was
pub record ReaderState : Type 0 where
  pub intake : IntakeState
  pub failed : Option FeedError

-- the pieces so far make this stream, and none was refused
abbrev pub StandsFor : (List ℕ → List ℕ) → List ℕ → ReaderState → List ℕ → Type 0
StandsFor digest id reader stream = (reader.failed ≡ None) × StandsAt digest id reader.intake stream

-- no piece was refused, and nothing but a second metadata can matter
abbrev pub IsSettledReader : ReaderState → Type 0
IsSettledReader reader = (reader.failed ≡ None) × IsSettledState reader.intake.heard

-- why a piece was refused, if it was
abbrev pub fault_of : Result (Unit {0}) FeedError → Option FeedError
fault_of (Ok done) = None
fault_of (Err fault) = Some fault

-- the result of feeding a piece that makes this stream: the reader stands for the stream, which is
-- right so far; or the cause of the error is there
abbrev pub Feeds : (List ℕ → List ℕ) → List ℕ → ReaderState → List ℕ → Result (Unit {0}) FeedError
    → Type 0
Feeds digest id new stream (Ok done) =
    StandsFor digest id new stream × (length stream ≤ 134217728)
    × ((place : ℕ) → IsWrongAt place stream → ⊥)
Feeds digest id new stream (Err (feed.Malformed place)) =
    IsWrongAt place stream × (length stream ≤ 134217728)
Feeds digest id new stream (Err feed.TooLong) = 134217728 < length stream
Feeds digest id new stream (Err feed.Memory) = length stream ≤ 134217728

-- the error that a piece was refused with, at the end
abbrev pub finish_error : FeedError → FinishError
finish_error (feed.Malformed place) = finish.Malformed place
finish_error feed.TooLong = finish.TooLong
finish_error feed.Memory = finish.Memory

-- the answer is that of a read of the payloads of the whole stream
pub record IsStreamRead (digest : List ℕ → List ℕ)
    (id stream : List ℕ) (answer : ReadAnswer) : Type 0 where
  pub payloads : List (List ℕ)
  pub whole : IsStream payloads stream
  pub is : IsAnswer digest id payloads answer
  pub enough : (metadata : BlobMetadata) → IsMetadataIn digest id payloads metadata
      → HasEnough digest id metadata payloads → IsVerdict answer.outcome

-- the result for the whole stream: an answer, or the place where it is malformed, or want of memory
-- if it is not malformed
abbrev pub FinishesStream : (List ℕ → List ℕ) → List ℕ → List ℕ → Result ReadAnswer FinishError
    → Type 0
FinishesStream digest id stream (Ok answer) = IsStreamRead digest id stream answer
FinishesStream digest id stream (Err (finish.Malformed place)) = IsMalformed place stream
FinishesStream digest id stream (Err finish.TooLong) = ⊥
FinishesStream digest id stream (Err finish.Memory) = (place : ℕ) → IsMalformed place stream → ⊥
