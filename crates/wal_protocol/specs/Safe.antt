-- What makes a run safe, whatever faulty shards and writers do.
use Rattle.std.specs.Prelude.{◌≡◌, ℕ, ◌+◌, ◌<◌, ◌≤◌, Bool, true, is_some, List, ◌∷◌, Some, All}
use Rattle.std.specs.Prelude.{Contains}
use Rattle.wal_shape.specs.declared.metadata.BlobId.{BlobId}
use Rattle.wal_shape.specs.declared.axis.Axis.TheVariants.{Primary, Secondary}
use Rattle.wal_shape.specs.declared.axis.Side.{Side}
use Rattle.wal_evidence.specs.declared.evidence.Verdict.{Verdict}
use Rattle.wal_evidence.specs.declared.evidence.Verdict.TheVariants as verdict
use Rattle.wal_event.specs.declared.event.Event.{Event}
use Rattle.wal_event.specs.declared.event.Event.TheVariants.{Attest, Read, Recover}
use Rattle.wal_event.specs.declared.event.Reply.{Reply}
use Rattle.wal_event.specs.declared.event.Reply.TheVariants as reply
use Rattle.wal_event.specs.declared.event.Schedule.{Schedule}
use Rattle.wal_event.specs.declared.line.Line.{Line}
use Rattle.wal_event.specs.declared.line.Line.TheVariants as line
use Rattle.wal_event.specs.declared.line.WriteWord.TheVariants as write_word
use Rattle.wal_event.specs.declared.line.AttestWord.TheVariants as attesting
use Rattle.wal_event.specs.declared.line.ReadWord.TheVariants as reading_of
use Rattle.wal_event.specs.declared.line.RecoverWord.TheVariants as recovering
use Rattle.wal_ledger.specs.Shards.{count_below, committee_size, quorum_size}
use Rattle.wal_ledger.specs.Ledger.{is_live, home_of, IsCertified}
use Rattle.wal_protocol.specs.State.{World, side_of, writing_side, is_correct, held, settled_in}
use Rattle.wal_protocol.specs.State.{holders}
use Rattle.wal_protocol.specs.Rules.{Rules}
use Rattle.wal_protocol.specs.Step.{told_by}
use Rattle.wal_protocol.specs.Run.{first_state}

-- the line shows a completed answer for a blob: the bytes or the rejection of a read, or the bytes
-- of an honest write
abbrev pub Shows : Line → BlobId → Verdict → Type 0
Shows (line.Read told_id word) id told = (told_id ≡ id) × (told_by word ≡ Some told)
Shows (line.Write told_id (write_word.Stored count bytes)) id told =
    (told_id ≡ id) × (told ≡ verdict.Bytes bytes)
Shows _ id told = ⊥

-- AGREE: all completed answers for one blob are the same bytes, or all are rejections
abbrev pub Agree : List Line → Type 0
Agree lines =
    (first second : Line) (id : BlobId) (told other : Verdict) → Contains lines first
    → Contains lines second
    → Shows first id told → Shows second id other → told ≡ other

-- what holds of each step of a run: of the state before it, the event, the line, and the state
-- after it
abbrev pub EachStep : (World → Event → Line → World → Type 0) → World → List Event → List World
    → List Line → Type 0
EachStep P old (event ∷ events) (new ∷ states) (said ∷ lines) =
    P old event said new × EachStep P new events states lines
EachStep P old _ _ _ = Unit {0}

-- COMMITTED: a correct shard that recovered a sliver holds a metadata that the identifier commits,
-- and the root over the sliver's codeword is the one that this metadata lists for the shard
-- (`CommitsTo`: `CommitsSliver` of wal_theorem/specs/Instance, by `HoldsSliver` of wal_commit)
abbrev pub IsCommitted : Rules → World → Event → Line → World → Type 0
IsCommitted rules old (Recover at shard axis id replies)
    (line.Recover told_shard told_axis told_id (recovering.Sliver bytes)) new =
    rules.CommitsTo id shard axis bytes (held (side_of at new) shard id)
IsCommitted rules old _ _ new = Unit {0}

-- KEPT: while each committee so far has had at most f faulty shards (`few`, which a state of the
-- world carries), more than f correct shards are settled for each certified blob: each holds its
-- metadata and both slivers of its own, or its metadata and a proof against it
abbrev pub IsKept : World → Type 0
IsKept world =
    world.few ≡ true → (id : BlobId) → IsCertified world.log id → world.log.f + 1 ≤ holders world id

-- the replies include the true reply of each correct shard of the home committee, besides any
-- others, in any order; the true reply is the frames that a correct shard then sends of what it
-- holds (`reply_payloads` in Step): its metadata, its primary sliver, its proof
abbrev pub Hears : World → BlobId → List Reply → Type 0
Hears world id replies =
    let home = home_of world.log id in
    (shard : ℕ) → shard < committee_size world.log.f → is_correct home world shard ≡ true
    → Contains replies (reply.True home shard)

-- the line shows bytes, a rejection or a collision
abbrev pub HasCompleted : Line → Type 0
HasCompleted (line.Read id (reading_of.Bytes bytes)) = Unit {0}
HasCompleted (line.Read id reading_of.Reject) = Unit {0}
HasCompleted (line.Collision left right) = Unit {0}
HasCompleted _ = ⊥

-- COMPLETE: while each committee so far has had at most f faulty shards (`few`), a read of a
-- certified blob that hears its committee completes
abbrev pub IsComplete : World → Event → Line → World → Type 0
IsComplete old (Read id replies) said new =
    old.few ≡ true → IsCertified old.log id → Hears old id replies → HasCompleted said
IsComplete old _ said new = Unit {0}

-- more than f correct shards of the writing side hold a metadata that the identifier commits, and a
-- proof that its blob is badly encoded (`Refutes`: `HoldsBadProof` of wal_theorem/specs/Instance,
-- by `IsBadProof` of wal_evidence)
abbrev pub HasRefuters : Rules → World → BlobId → Type 0
HasRefuters rules world id =
    (refuters : ℕ → Bool) × (world.log.f + 1 ≤ count_below (committee_size world.log.f) refuters)
    × ((shard : ℕ) → shard < committee_size world.log.f → refuters shard ≡ true
    → (is_correct (writing_side world) world shard ≡ true)
    × rules.Refutes id (held (side_of (writing_side world) world) shard id))

-- JUST: while each committee so far has had at most f faulty shards (`few`), what is declared
-- invalid is refuted
abbrev pub IsJust : Rules → World → Event → Line → World → Type 0
IsJust rules old (Attest shard id) (line.Attest told_shard told_id (attesting.Invalid count)) new =
    new.few ≡ true → HasRefuters rules new id
IsJust rules old _ _ new = Unit {0}

-- THE SAFE RUN of a schedule: the states after the first one, and the lines. That each run is safe
-- is proved in wal_theorem (`every_run`)
pub record IsSafe (rules : Rules) (schedule : Schedule)
    (states : List World) (lines : List Line) : Type 0 where
  -- two reads agree: all completed answers for one blob are the same bytes, or all are rejections;
  -- for any number of faulty shards
  pub agree : Agree lines
  -- a sliver that a correct shard recovered has the committed root, by a metadata that it holds;
  -- for any number of faulty shards
  pub committed : EachStep (IsCommitted rules) (first_state schedule) schedule.events states lines
  -- while no committee so far has had more than f faulty shards, more than f correct shards are
  -- settled for each certified blob
  pub kept : All IsKept (first_state schedule ∷ states)
  -- while that is so, a read of a certified blob that hears every correct shard of its committee
  -- completes, or shows a collision
  pub complete : EachStep IsComplete (first_state schedule) schedule.events states lines
  -- while that is so, a blob that is declared invalid is refuted by more than f correct shards that
  -- hold a proof against it
  pub just : EachStep (IsJust rules) (first_state schedule) schedule.events states lines

-- more than f settled shards of the home committee are heard; to a shard that recovers its sliver
-- each sends its metadata, its symbol of that sliver and its proof (`IsReplyOf` in Step)
abbrev pub HearsSettled : World → BlobId → List Reply → Type 0
HearsSettled world id replies =
    let home = home_of world.log id in
    (heard : ℕ → Bool) × (world.log.f + 1 ≤ count_below (committee_size world.log.f) heard)
    × ((shard : ℕ) → shard < committee_size world.log.f → heard shard ≡ true
    → (is_correct home world shard ≡ true) × (settled_in (side_of home world) id shard ≡ true)
    × Contains replies (reply.True home shard))

-- a quorum of correct shards, of either side, that hold secondary slivers are heard
abbrev pub HearsSecondary : World → BlobId → List Reply → Type 0
HearsSecondary world id replies =
    (heard : ℕ → Bool) × (quorum_size world.log.f ≤ count_below (committee_size world.log.f) heard)
    × ((shard : ℕ) → shard < committee_size world.log.f → heard shard ≡ true
    → (side : Side) × (is_correct side world shard ≡ true)
    × (is_some (held (side_of side world) shard id).secondary ≡ true)
    × Contains replies (reply.True side shard))

-- the line shows a sliver, or that by the replies' symbols it is badly encoded, or a collision
abbrev pub IsDecided : Line → Type 0
IsDecided (line.Recover shard axis id (recovering.Sliver bytes)) = Unit {0}
IsDecided (line.Recover shard axis id recovering.Inconsistent) = Unit {0}
IsDecided (line.Collision left right) = Unit {0}
IsDecided _ = ⊥

-- or that by a proof it is badly encoded
abbrev pub IsSettling : Line → Type 0
IsSettling (line.Recover shard axis id recovering.Proof) = Unit {0}
IsSettling said = IsDecided said

-- RECOVERIES COMPLETE: a correct shard that recovers its sliver of a live blob from enough replies
-- gets it, or learns that the blob is badly encoded, or the line is a collision
abbrev pub IsRecoveryComplete : World → Event → Line → World → Type 0
IsRecoveryComplete old (Recover at shard Secondary id replies) said new =
    is_correct at old shard ≡ true → is_live old.log id ≡ true → HearsSettled old id replies
    → IsSettling said
IsRecoveryComplete old (Recover at shard Primary id replies) said new =
    is_correct at old shard ≡ true → is_live old.log id ≡ true → HearsSecondary old id replies
    → IsDecided said
IsRecoveryComplete old _ said new = Unit {0}
