-- Entries one after the other, by the context and the records of the blobs that they name.
use Rattle.std.specs.Prelude.{◌≡◌, ℕ, ◌+◌, ◌<◌, ◌≤◌, Bool, true, false, cond, nat_lt}
use Rattle.std.specs.Prelude.{⊤, List, [], ◌∷◌, ◌++◌, fold}
use Rattle.std.specs.Prelude.{slice_index_or, slice_set}
use Rattle.wal_ledger.specs.declared.entry.Body.TheVariants as saying
use Rattle.wal_ledger.specs.declared.entry.Kind.{Kind}
use Rattle.wal_ledger.specs.declared.entry.Kind.TheVariants.{Holds, Denies}
use Rattle.wal_ledger.specs.Shards.{quorum_size}
use Rattle.wal_shape.specs.Owners.{are_owners}
use Rattle.wal_record.specs.Record.{BlobRecord, no_record}
use Rattle.wal_record.specs.Context.{Context, writes, turn}
use Rattle.wal_record.specs.Questions.{register, claim, ready, ready_count}
use Rattle.wal_follow.specs.declared.item.Item.{Item}
use Rattle.wal_follow.specs.declared.item.Item.TheVariants.{Register, Ack, Attest, Ready, Begin, Finish}
use Rattle.wal_follow.specs.declared.outcome.Outcome.{Outcome}
use Rattle.wal_follow.specs.declared.outcome.Outcome.TheVariants as coming
use Rattle.wal_follow.specs.Outcomes.{registered, claimed, readied}

-- what is kept of a ledger: the context, and the record of each blob, by its place
pub record Kept : Type 0 where
  pub context : Context
  pub blobs : List BlobRecord

-- an entry is of a committee of n and of so many blobs: its shard, or the owners that it brings,
-- are of the committee, its blob has a place, and it registers until at most the epoch after the
-- last
abbrev pub IsOf : ℕ → ℕ → Item → Type 0
IsOf n count (Register blob until) = (blob < count) × (until ≤ 65536)
IsOf n count (Ack blob shard) = (blob < count) × (shard < n)
IsOf n count (Attest blob shard) = (blob < count) × (shard < n)
IsOf n count (Ready shard) = shard < n
IsOf n count (Begin owners) = are_owners n owners ≡ true
IsOf n count Finish = ⊤

-- whether an entry begins a change of the epoch
abbrev pub begins : Item → Bool
begins (Begin owners) = true
begins _ = false

-- the record at a place, or that of a blob without entries
abbrev pub blob_at : List BlobRecord → ℕ → BlobRecord
blob_at blobs place = slice_index_or blobs place no_record

-- the records with another one at a place
abbrev pub put_blob : List BlobRecord → ℕ → BlobRecord → List BlobRecord
put_blob blobs place blob = slice_set blobs place blob

-- what comes of a registration of the blob at a place, and what is kept then
abbrev pub registered_at : Kept → ℕ → ℕ → Outcome × Kept
registered_at kept place until =
    let told = register kept.context (blob_at kept.blobs place) until in
    (registered told.0, record kept { blobs = put_blob kept.blobs place told.1 })

-- of what a shard says of the blob at a place
abbrev pub claimed_at : Kind → Kept → ℕ → ℕ → Outcome × Kept
claimed_at kind kept place shard =
    let told = claim kind kept.context (blob_at kept.blobs place) shard in
    (claimed kind told.0, record kept { blobs = put_blob kept.blobs place told.1 })

-- of a shard of the next committee that is ready: the context then
abbrev pub readied_by : Context → ℕ → Outcome × Context
readied_by context shard =
    cond context.moving
    (let told = ready context shard in (readied told.0, told.1))
    (coming.RefusedNotMoving, context)

-- of a change of the epoch that begins
abbrev pub begun : Context → List ℕ → Outcome × Context
begun context owners =
    cond context.moving (coming.RefusedMoving, context)
    (cond (nat_lt context.epoch 65535)
    (coming.Epoch (context.epoch + 1), turn context (saying.Begin owners))
    (coming.RefusedLastEpoch, context))

-- of one that ends
abbrev pub finished : Context → Outcome × Context
finished context =
    cond context.moving
    (cond (nat_lt (ready_count context) (quorum_size context.f))
    (coming.Waiting (ready_count context), context)
    (coming.Epoch (writes context), turn context saying.Finish))
    (coming.RefusedNotMoving, context)

-- what is kept, with another context
abbrev pub with_context : Kept → Outcome × Context → Outcome × Kept
with_context kept told = (told.0, record kept { context = told.1 })

-- what comes of an entry, and what is kept then
abbrev pub entered : Kept → Item → Outcome × Kept
entered kept (Register blob until) = registered_at kept blob until
entered kept (Ack blob shard) = claimed_at Holds kept blob shard
entered kept (Attest blob shard) = claimed_at Denies kept blob shard
entered kept (Ready shard) = with_context kept (readied_by kept.context shard)
entered kept (Begin owners) = with_context kept (begun kept.context owners)
entered kept Finish = with_context kept (finished kept.context)

-- what came of the entries so far, and what is kept, after one more
abbrev pub entered_next : List Outcome × Kept → Item → List Outcome × Kept
entered_next so_far item =
    let told = entered so_far.1 item in
    (so_far.0 ++ told.0 ∷ [], told.1)

-- what comes of entries one after the other, and what is kept then
abbrev pub entered_all : Kept → List Item → List Outcome × Kept
entered_all kept items = fold entered_next ([], kept) items
