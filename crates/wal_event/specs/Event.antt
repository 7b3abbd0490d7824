-- Events and schedules whose numbers and lists are in range.
use Rattle.std.specs.Prelude.{ℕ, ◌≤◌, ◌<◌, Bool, true, ◌&&◌, nat_le, nat_lt, List, length, IsTrue}
use Rattle.std.specs.List.{AllByRecursion, list_all}
use Rattle.wal_shape.specs.Shape.{most_bytes, shard_count}
use Rattle.wal_shape.specs.Owners.{is_ascending, is_committee}
use Rattle.wal_event.specs.declared.event.Reply.{Reply}
use Rattle.wal_event.specs.declared.event.Reply.TheVariants as reply
use Rattle.wal_event.specs.declared.event.Event.{Event}
use Rattle.wal_event.specs.declared.event.Event.TheVariants.{Register, Write, Send, Ack, Attest}
use Rattle.wal_event.specs.declared.event.Event.TheVariants.{Read, Recover, Forget, Begin, Ready}
use Rattle.wal_event.specs.declared.event.Event.TheVariants.{Finish, Certificate, Holders}
use Rattle.wal_event.specs.declared.event.Schedule.{Schedule}

-- a true reply is from one of the n shards
abbrev pub IsReply : ℕ → Reply → Type 0
IsReply n (reply.True side shard) = shard < n
IsReply n (reply.Bytes bytes) = Unit

-- at most 4,096 replies of n shards
pub record AreRepliesWithin (n : ℕ) (replies : List Reply) : Type 0 where
  pub count : length replies ≤ 4096
  pub each : AllByRecursion (IsReply n) replies

-- the numbers and the lists of an event are in range for n shards
abbrev pub IsEventWithin : ℕ → Event → Type 0
IsEventWithin n (Register id until) = until ≤ 65536
IsEventWithin n (Write blob to) = (length blob ≤ most_bytes) × IsTrue (is_ascending n to)
IsEventWithin n (Send at shard bytes) = shard < n
IsEventWithin n (Ack shard id) = shard < n
IsEventWithin n (Attest shard id) = shard < n
IsEventWithin n (Read id replies) = AreRepliesWithin n replies
IsEventWithin n (Recover at shard axis id replies) = (shard < n) × AreRepliesWithin n replies
IsEventWithin n (Forget at shard id) = shard < n
IsEventWithin n (Begin owners faulty stays) =
    IsTrue (is_committee n owners faulty) × IsTrue (is_ascending n stays)
IsEventWithin n (Ready shard) = shard < n
IsEventWithin n Finish = Unit
IsEventWithin n (Certificate id) = Unit
IsEventWithin n (Holders id) = Unit

-- the same conditions, as tests
abbrev pub reply_within : ℕ → Reply → Bool
reply_within n (reply.True side shard) = nat_lt shard n
reply_within n (reply.Bytes bytes) = true

abbrev pub replies_within : ℕ → List Reply → Bool
replies_within n replies = nat_le (length replies) 4096 && list_all (reply_within n) replies

abbrev pub within : ℕ → Event → Bool
within n (Register id until) = nat_le until 65536
within n (Write blob to) = nat_le (length blob) most_bytes && is_ascending n to
within n (Send at shard bytes) = nat_lt shard n
within n (Ack shard id) = nat_lt shard n
within n (Attest shard id) = nat_lt shard n
within n (Read id replies) = replies_within n replies
within n (Recover at shard axis id replies) = nat_lt shard n && replies_within n replies
within n (Forget at shard id) = nat_lt shard n
within n (Begin owners faulty stays) = is_committee n owners faulty && is_ascending n stays
within n (Ready shard) = nat_lt shard n
within n Finish = true
within n (Certificate id) = true
within n (Holders id) = true

-- an event is in range for a committee of which at most f shards are faulty
pub record Fits (f : ℕ) (event : Event) : Type 0 where
  pub least : 1 ≤ f
  pub most : f ≤ 333
  pub within : IsEventWithin (shard_count f) event

-- whether an event fits schedules of this f
abbrev pub event_fits : ℕ → Event → Bool
event_fits f event = nat_le 1 f && (nat_le f 333 && within (shard_count f) event)

-- a schedule is in range
pub record IsSchedule (schedule : Schedule) : Type 0 where
  pub least : 1 ≤ schedule.f
  pub most : schedule.f ≤ 333
  pub epoch_most : schedule.epoch ≤ 65535
  pub committee : IsTrue (is_committee (shard_count schedule.f) schedule.owners schedule.faulty)
  pub count : length schedule.events ≤ 65536
  pub each : AllByRecursion (λ event. IsEventWithin (shard_count schedule.f) event) schedule.events
