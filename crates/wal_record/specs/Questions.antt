-- What a ledger answers of a blob, told by the context and the blob's record.
use Rattle.std.specs.Prelude.{ℕ, ◌+◌, ◌||◌, nat_eq, Bool, false, ◌&&◌, cond, nat_lt, nat_le, Option, Some, None}
use Rattle.std.specs.Prelude.{is_some}
use Rattle.wal_shape.specs.declared.axis.Side.{Side}
use Rattle.wal_shape.specs.declared.axis.Side.TheVariants.{Now, Next}
use Rattle.wal_ledger.specs.declared.entry.Kind.{Kind}
use Rattle.wal_ledger.specs.declared.entry.Kind.TheVariants.{Holds, Denies}
use Rattle.wal_ledger.specs.declared.answers.RegisterAnswer.{RegisterAnswer}
use Rattle.wal_ledger.specs.declared.answers.RegisterAnswer.TheVariants as registering
use Rattle.wal_ledger.specs.declared.entry.Body.TheVariants.{Ready}
use Rattle.wal_ledger.specs.declared.answers.ReadyAnswer.{ReadyAnswer}
use Rattle.wal_ledger.specs.declared.answers.ReadyAnswer.TheVariants as readying
use Rattle.wal_ledger.specs.declared.answers.AckAnswer.{AckAnswer}
use Rattle.wal_ledger.specs.declared.answers.AckAnswer.TheVariants as acking
use Rattle.wal_ledger.specs.declared.answers.AttestAnswer.{AttestAnswer}
use Rattle.wal_ledger.specs.declared.answers.AttestAnswer.TheVariants as attesting
use Rattle.wal_ledger.specs.Shards.{count_below, committee_size, quorum_size}
use Rattle.wal_record.specs.declared.outcome.Said.{Said}
use Rattle.wal_record.specs.declared.outcome.Said.TheVariants as saying
use Rattle.wal_record.specs.Record.{FirstQuorum, Votes, BlobRecord}
use Rattle.wal_record.specs.Context.{Context, writes, writers, signed_in, count_of, first_quorum, voted}
use Rattle.wal_record.specs.Context.{registered, turn}

-- the votes of a kind
abbrev pub votes_in : Kind → BlobRecord → Votes
votes_in Holds blob = blob.holds
votes_in Denies blob = blob.denies

-- whether the blob is live
abbrev pub lives : Context → BlobRecord → Bool
lives context blob = nat_lt context.epoch blob.until

-- the shards that signed in an epoch, as far as that is the last one or the one before it
abbrev pub signed_at : Votes → ℕ → (ℕ → Bool)
signed_at votes epoch shard =
    signed_in votes epoch shard || (nat_eq votes.epoch (epoch + 1) && votes.before shard)

-- how many shards signed in the writing epoch
abbrev pub count_now : Context → Votes → ℕ
count_now context votes =
    count_below (committee_size context.f) (signed_in votes (writes context))

-- the committee that answers for the blob
abbrev pub home_in : Context → BlobRecord → Side
home_in context blob =
    cond (context.moving && nat_le (quorum_size context.f) (count_now context blob.holds)) Next Now

-- the least epoch in which a quorum acknowledged the blob, if it is live, and which shards did
abbrev pub certificate_in : Context → BlobRecord → Option FirstQuorum
certificate_in context blob =
    cond (lives context blob) (first_quorum context.f blob.holds) None

-- whether the blob is live, and a quorum attested in one epoch that it is invalid
abbrev pub is_invalid_in : Context → BlobRecord → Bool
is_invalid_in context blob = lives context blob && is_some (first_quorum context.f blob.denies)

-- whether there is a quorum, of an epoch before this one
abbrev pub is_before : ℕ → Option FirstQuorum → Bool
is_before epoch None = false
is_before epoch (Some quorum) = nat_lt quorum.epoch epoch

-- whether a shard of the next committee must hold the blob to be ready
abbrev pub must_hold_in : Context → BlobRecord → Bool
must_hold_in context blob =
    context.moving
    && (nat_lt (writes context) blob.until
    && is_before (writes context) (first_quorum context.f blob.holds))

-- what a registration is answered, where there is room, and the record after it
abbrev pub register : Context → BlobRecord → ℕ → RegisterAnswer × BlobRecord
register context blob until =
    cond (nat_le until (writes context)) (registering.Past, blob)
    (cond (context.moving && lives context blob) (registering.MovingExtension, blob)
    (let new = registered context.epoch until blob in (registering.Registered new.until, new)))

-- the record with other votes of a kind
abbrev pub with_votes : Kind → Votes → BlobRecord → BlobRecord
with_votes Holds votes blob = record blob { holds = votes }
with_votes Denies votes blob = record blob { denies = votes }

-- what so many shards are answered
abbrev pub tally : ℕ → ℕ → Said
tally f count = cond (nat_lt count (quorum_size f)) (saying.Counted count) (saying.Quorum count)

-- what a claim is answered, where there is room, and the record after it
abbrev pub claim : Kind → Context → BlobRecord → ℕ → Said × BlobRecord
claim kind context blob shard =
    cond (nat_le blob.until context.epoch) (saying.Unregistered, blob)
    (cond (nat_le blob.until (writes context)) (saying.Expires, blob)
    (cond (signed_in (votes_in kind blob) (writes context) shard) (saying.Already, blob)
    (let new = voted context.f (writes context) (writers context) shard (votes_in kind blob) in
    (tally context.f (count_of context.f new), with_votes kind new blob))))

-- how many shards of the next committee are ready: a quorum of them ends the change
abbrev pub ready_count : Context → ℕ
ready_count context = count_below (committee_size context.f) context.ready

-- what a shard of the next committee is answered that says that it is ready, where there is room,
-- and the context after it
abbrev pub ready : Context → ℕ → ReadyAnswer × Context
ready context shard =
    cond (context.ready shard) (readying.Already, context)
    (let new = turn context (Ready shard) in (readying.Counted (ready_count new), new))

-- what a claim is answered, in the ledger's words for an acknowledgement
abbrev pub ack_word : Said → AckAnswer
ack_word (saying.Counted count) = acking.Counted count
ack_word (saying.Quorum count) = acking.Certified count
ack_word saying.Already = acking.Already
ack_word saying.Unregistered = acking.Unregistered
ack_word saying.Expires = acking.Expires

-- in its words for an attestation
abbrev pub attest_word : Said → AttestAnswer
attest_word (saying.Counted count) = attesting.Counted count
attest_word (saying.Quorum count) = attesting.Invalid count
attest_word saying.Already = attesting.Already
attest_word saying.Unregistered = attesting.Unregistered
attest_word saying.Expires = attesting.Expires
