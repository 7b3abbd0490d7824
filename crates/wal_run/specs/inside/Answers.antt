-- What a command has to say of its input: an answer or a refusal, each with a status and a text.
use Rattle.std.specs.Prelude.{◌≡◌, ◌≢◌, ℕ, List, take, Result, Ok, Err}
use Rattle.wal_shape.specs.declared.metadata.BlobId.{BlobId}
use Rattle.wal_journal.specs.FlatDisk.{flat_bytes}
use Rattle.wal_run.specs.declared.answer.Answer.{Answer}
use Rattle.wal_run.specs.declared.answer.Answer.TheVariants.{Bytes, Image, Sliver, Proof}
use Rattle.wal_run.specs.declared.refusal.Refusal.{Refusal}
use Rattle.wal_run.specs.declared.refusal.Refusal.TheVariants.{Memory}
use Rattle.wal_run.specs.Command.{BreaksAt, IsResult, bare, envelopes_of}
use Rattle.wal_run.specs.inside.Refusals.{refusal_status, refusal_text}

abbrev pub answer_status : Answer → ℕ
answer_status (Bytes bytes) = 0
answer_status (Image image) = 0
answer_status (Sliver envelope) = 0
answer_status (Proof envelope) = 3

abbrev pub answer_text : Answer → List ℕ
answer_text (Bytes bytes) = bytes
answer_text (Image image) = take image.size (flat_bytes image.disk)
answer_text (Sliver envelope) = envelope.bytes
answer_text (Proof envelope) = envelope.bytes

-- what is written of a refusal: nothing if memory ran out
abbrev pub Refused : Refusal → ℕ → List ℕ → Type 0
Refused refusal status text =
    (refusal ≢ Memory) × (status ≡ refusal_status refusal) × (text ≡ refusal_text refusal)

-- what is written of what a command has to say
abbrev pub Tells : Result Answer Refusal → ℕ → List ℕ → Type 0
Tells (Ok answer) status text = (status ≡ answer_status answer) × (text ≡ answer_text answer)
Tells (Err refusal) status text = Refused refusal status text

-- a refusal tells a result, unless memory ran out
abbrev pub Refuses : Refusal → (ℕ → List ℕ → Type 0) → Type 0
Refuses refusal Is = refusal ≢ Memory → Is (refusal_status refusal) (refusal_text refusal)

-- WHAT A COMMAND SAYS IS A RESULT, unless memory ran out
abbrev pub Says : Result Answer Refusal → (ℕ → List ℕ → Type 0) → Type 0
Says (Ok answer) Is = Is (answer_status answer) (answer_text answer)
Says (Err refusal) Is = Refuses refusal Is

-- the input is no stream of envelopes
abbrev pub IsBroken : List ℕ → ℕ → List ℕ → Type 0
IsBroken input status text = (status ≡ 8) × BreaksAt input text

-- the input is no stream, or its payloads carry no metadata of the identifier, or two that differ:
-- what every command that asks for one tells
abbrev pub LacksMetadata : (List ℕ → List ℕ) → BlobId → List ℕ → ℕ → List ℕ → Type 0
LacksMetadata digest id input status text =
    IsResult digest (bare 0 (envelopes_of id)) input status text
