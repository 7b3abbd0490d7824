-- The sample: a schedule with one handover, whose faulty shards and blobs are drawn from a number.
use Rattle.std.specs.Prelude.{◌≡◌, ℕ, zero, suc, ◌+◌, ◌*◌, ◌/◌, ◌%◌, ◌^◌, List, [], ◌∷◌, ◌++◌, map}
use Rattle.std.specs.List.{AllByRecursion, range_with_len, flat_map, remove}
use Rattle.wal_shape.specs.declared.axis.Axis.{Axis}
use Rattle.wal_shape.specs.declared.axis.Axis.TheVariants.{Primary, Secondary}
use Rattle.wal_shape.specs.declared.axis.Side.TheVariants.{Now, Next}
use Rattle.wal_shape.specs.declared.metadata.BlobId.{BlobId}
use Rattle.wal_shape.specs.declared.shape.Format.TheVariants.{One}
use Rattle.wal_commit.specs.Identifier.{IsIdentifierOf}
use Rattle.wal_event.specs.declared.event.Reply.{Reply}
use Rattle.wal_event.specs.declared.event.Reply.TheVariants as reply
use Rattle.wal_event.specs.declared.event.Event.{Event}
use Rattle.wal_event.specs.declared.event.Event.TheVariants.{Register, Write, Ack, Read, Recover}
use Rattle.wal_event.specs.declared.event.Event.TheVariants.{Begin, Ready, Finish, Holders}
use Rattle.wal_event.specs.declared.event.Schedule.{Schedule}
use Rattle.wal_schedule.specs.declared.drawn.SampleBlob.{SampleBlob}

-- the state of the generator after one draw
unfoldable pub next_state : ℕ → ℕ
next_state state = (state * 6364136223846793005 + 1442695040888963407) % 2 ^ 64

-- the state after k draws
unfoldable pub state_after : ℕ → ℕ → ℕ
state_after state zero = state
state_after state (suc k) = next_state (state_after state k)

-- the k-th draw from this state, counted from 1
abbrev pub drawn : ℕ → ℕ → ℕ
drawn state k = state_after state k / 2 ^ 33

-- the state before the blob of this number is drawn, from the state before the first one
unfoldable pub state_before : ℕ → ℕ → ℕ
state_before state zero = state
state_before state (suc number) = state_after (state_before state number) (8 * number + 7)

-- the blob of this number, of 8 (number + 1) bytes: its number, and then bytes that are drawn from
-- this state
abbrev pub blob_from : ℕ → ℕ → List ℕ
blob_from state number = number ∷ map (λ k. drawn state k % 256) (range_with_len 1 (8 * number + 7))

-- the first blobs are those that are drawn one after the other, and have their identifiers
pub record AreBlobs (digest : List ℕ → List ℕ) (state count : ℕ)
    (blobs : List SampleBlob) : Type 0 where
  pub bytes : map (λ blob. blob.bytes) blobs
      ≡ map (λ number. blob_from (state_before state number) number) (range_with_len 0 count)
  pub identified : AllByRecursion (λ blob. IsIdentifierOf digest One 2 blob.bytes blob.id.0) blobs

-- the seven shards
abbrev pub everyone : List ℕ
everyone = range_with_len 0 7

-- all of them but one; each stands at the place of its number
abbrev pub everyone_but : ℕ → List ℕ
everyone_but shard = remove everyone shard

-- the true replies of all shards of the present committee
abbrev pub truths : List Reply
truths = map (λ shard. reply.True Now shard) everyone

-- a blob is registered, written to all, acknowledged by all and read
abbrev pub stored_events : SampleBlob → List Event
stored_events blob =
    Register blob.id 10 ∷ Write blob.bytes everyone
    ∷ (map (λ shard. Ack shard blob.id) everyone ++ Read blob.id truths ∷ [])

-- a shard of the next committee recovers its slivers of this axis
abbrev pub recovered_by : Axis → List SampleBlob → ℕ → List Event
recovered_by axis blobs shard = map (λ blob. Recover Next shard axis blob.id truths) blobs

-- all shards of the next committee recover their slivers of this axis
abbrev pub recovered_events : Axis → List SampleBlob → List Event
recovered_events axis blobs = flat_map (recovered_by axis blobs) everyone

-- the holders of a blob are counted, and it is read
abbrev pub asked_of : BlobId → List Event
asked_of id = Holders id ∷ Read id truths ∷ []

abbrev pub asked_events : SampleBlob → List Event
asked_events blob = asked_of blob.id

-- the events before the change of the epoch, and those from its beginning on, with the shard that
-- is faulty then and the one that does not stay
abbrev pub earlier_events : List SampleBlob → List Event
earlier_events blobs = flat_map stored_events blobs

abbrev pub later_events : List SampleBlob → ℕ → ℕ → List Event
later_events blobs faulty leaving =
    Begin everyone (faulty ∷ []) (everyone_but leaving)
    ∷ (recovered_events Secondary blobs ++ recovered_events Primary blobs
    ++ map (λ shard. Ready shard) everyone ++ Finish ∷ flat_map asked_events blobs)

-- the schedule of these blobs and these three shards: the one that is faulty first, the one that is
-- faulty later, and the one that does not stay
abbrev pub sample_with : List SampleBlob → ℕ → ℕ → ℕ → Schedule
sample_with blobs first later leaving = record {
  f = 2;
  epoch = 0;
  format = One;
  owners = everyone;
  faulty = first ∷ [];
  events = earlier_events blobs ++ later_events blobs later leaving;
}

-- the schedule is the sample of a number: the first draw is for the faulty shard, then blob after
-- blob is drawn, and the next two draws are for the shards of the change
abbrev pub IsSample : (List ℕ → List ℕ) → ℕ → Schedule → Type 0
IsSample digest number schedule =
    (blobs : List SampleBlob) × AreBlobs digest (state_after number 1) 32 blobs
    × (schedule ≡ sample_with blobs (drawn number 1 % 7)
    (drawn (state_before (state_after number 1) 32) 1 % 7)
    (drawn (state_before (state_after number 1) 32) 2 % 7))
