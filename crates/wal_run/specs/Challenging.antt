-- The command that answers a storage challenge from recorded slivers.
use Rattle.std.specs.Prelude.{◌≡◌, ◌⊎◌, ℕ, ◌<◌, ◌≤◌, List, codes}
use Rattle.std.specs.List.{flat_map}
use Rattle.wal_shape.specs.declared.axis.Axis.{Axis}
use Rattle.wal_shape.specs.declared.axis.Axis.TheVariants.{Primary, Secondary}
use Rattle.wal_shape.specs.declared.claim.Claim.{Claim}
use Rattle.wal_shape.specs.declared.opening.Opening as single
use Rattle.wal_shape.specs.Metadata.{BlobMetadata, held_index}
use Rattle.wal_shape.specs.Shape.{shard_count}
use Rattle.wal_frame.specs.Frame.{Opening, envelope, frame_text}
use Rattle.wal_reader.specs.Carried.{IsFirstHeldSliver, NoHeldSliver}
use Rattle.wal_challenge.specs.Answer.{AreAnswers}
use Rattle.wal_challenge.specs.Verdict.{claims_from}
use Rattle.wal_words.specs.declared.task.Audit.{Audit}
use Rattle.wal_run.specs.Command.{Command, Recorded, bare, envelopes_of}

-- the first sliver of this axis that the payloads carry and that the metadata commits for the shard
abbrev pub IsOwnSliver : (List ℕ → List ℕ) → Audit → Recorded → Axis → List ℕ → Type 0
IsOwnSliver digest audit recorded axis bytes =
    IsFirstHeldSliver digest audit.id.0 recorded.metadata axis
    (held_index recorded.metadata.format recorded.metadata.f axis audit.shard)
    recorded.payloads bytes

-- the payloads carry no such sliver
abbrev pub HasNoSliver : (List ℕ → List ℕ) → Audit → Recorded → Axis → Type 0
HasNoSliver digest audit recorded axis =
    NoHeldSliver digest audit.id.0 recorded.metadata axis
    (held_index recorded.metadata.format recorded.metadata.f axis audit.shard) recorded.payloads

-- the envelope of an opening from a shard
abbrev pub claim_envelope : Audit → Claim → List ℕ
claim_envelope audit claim =
    envelope audit.shard (frame_text (Opening audit.id.0 claim.axis claim.index claim.opening))

-- the envelopes of openings, each with the target of its draw
abbrev pub answer_text : (List ℕ → List ℕ) → Audit → BlobMetadata → List single.Opening → List ℕ
answer_text digest audit metadata openings =
    flat_map (claim_envelope audit)
    (claims_from digest metadata audit.beacon audit.shard 0 openings)

-- these are the envelopes of what the shard answers to so many draws from its two slivers
abbrev pub IsAnswerText : (List ℕ → List ℕ) → Audit → BlobMetadata → List ℕ → List ℕ → ℕ → List ℕ
    → Type 0
IsAnswerText digest audit metadata primary secondary count text =
    (openings : List single.Opening)
    × AreAnswers digest metadata audit.beacon audit.shard count primary secondary openings
    × (text ≡ answer_text digest audit metadata openings)

-- the shard is one of the blob's
abbrev pub HasShard : Audit → Recorded → Type 0
HasShard audit recorded = audit.shard < shard_count recorded.metadata.f

-- the shard is none of the blob's, and the text says so
abbrev pub LacksShard : Audit → Recorded → List ℕ → Type 0
LacksShard audit recorded text =
    (shard_count recorded.metadata.f ≤ audit.shard) × (text ≡ codes "no shard\n")

-- what the shard answers to so many draws from its first slivers among the payloads
abbrev pub AnswersDraws : (List ℕ → List ℕ) → Audit → Recorded → ℕ → List ℕ → Type 0
AnswersDraws digest audit recorded count text =
    HasShard audit recorded × (primary : List ℕ) × IsOwnSliver digest audit recorded Primary primary
    × (secondary : List ℕ) × IsOwnSliver digest audit recorded Secondary secondary
    × IsAnswerText digest audit recorded.metadata primary secondary count text

-- ---- the command: what the shard answers from its slivers
abbrev pub challenging : (List ℕ → List ℕ) → Audit → Command
challenging digest audit = record (bare 134217728 (envelopes_of audit.id)) {
  -- an envelope for each draw, in order
  Succeeds = λ recorded text. AnswersDraws digest audit recorded audit.count text;
  -- there is no such shard, or it lacks a sliver, of which the primary one is looked for first
  Lacks = λ recorded text. LacksShard audit recorded text
      ⊎ ((HasShard audit recorded × HasNoSliver digest audit recorded Primary
      × (text ≡ codes "no primary\n"))
      ⊎ (HasShard audit recorded
      × ((primary : List ℕ) × IsOwnSliver digest audit recorded Primary primary)
      × HasNoSliver digest audit recorded Secondary × (text ≡ codes "no secondary\n")));
  -- whole envelopes for the first draws, which are not all
  Leaves = λ recorded text. (count : ℕ) × (count < audit.count)
      × AnswersDraws digest audit recorded count text;
  -- envelopes for the first draws, the last of which was being written
  Owes = λ recorded text. (count : ℕ) × (count ≤ audit.count)
      × AnswersDraws digest audit recorded count text;
}
