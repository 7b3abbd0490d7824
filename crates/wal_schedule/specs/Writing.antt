-- Schedules as JSON: the value that is written for each. Keys are in the order of their bytes, and
-- digits are lower-case.
use Rattle.std.specs.Prelude.{◌≡◌, ℕ, List, length, map, codes}
use Rattle.std.specs.List.{AllByRecursion}
use Rattle.hex.specs.Hex.{IsBytes, encode_lower}
use Rattle.serde_json.specs.Data.{Data, Members, unsigned, number, string, array, object}
use Rattle.serde_json.specs.Data.{no_members, member}
use Rattle.serde_json.specs.View.{items_of}
use Rattle.wal_shape.specs.declared.axis.Axis.{Axis}
use Rattle.wal_shape.specs.declared.axis.Axis.TheVariants.{Primary, Secondary}
use Rattle.wal_shape.specs.declared.axis.Side.{Side}
use Rattle.wal_shape.specs.declared.axis.Side.TheVariants.{Now, Next}
use Rattle.wal_shape.specs.declared.metadata.BlobId.{BlobId}
use Rattle.wal_shape.specs.declared.shape.Format.{Format}
use Rattle.wal_shape.specs.declared.shape.Format.TheVariants.{One, Two}
use Rattle.wal_event.specs.declared.event.Reply.{Reply}
use Rattle.wal_event.specs.declared.event.Reply.TheVariants as reply
use Rattle.wal_event.specs.declared.event.Event.{Event}
use Rattle.wal_event.specs.declared.event.Event.TheVariants.{Register, Write, Send, Ack, Attest}
use Rattle.wal_event.specs.declared.event.Event.TheVariants.{Read, Recover, Forget, Begin, Ready}
use Rattle.wal_event.specs.declared.event.Event.TheVariants.{Finish, Certificate, Holders}
use Rattle.wal_event.specs.declared.event.Schedule.{Schedule}

abbrev pub number_data : ℕ → Data
number_data n = number (unsigned n)

abbrev pub bytes_data : List ℕ → Data
bytes_data bytes = string (encode_lower bytes)

abbrev pub id_data : BlobId → Data
id_data id = bytes_data id.0

abbrev pub list_data : List ℕ → Data
list_data numbers = array (items_of (map number_data numbers))

abbrev pub side_data : Side → Data
side_data Now = string (codes "now")
side_data Next = string (codes "next")

abbrev pub axis_data : Axis → Data
axis_data Primary = string (codes "primary")
axis_data Secondary = string (codes "secondary")

abbrev pub format_data : Format → Data
format_data One = number_data 1
format_data Two = number_data 2

abbrev pub reply_data : Reply → Data
reply_data (reply.True side shard) =
    object
    (member (codes "at") (side_data side) (member (codes "true") (number_data shard) no_members))
reply_data (reply.Bytes bytes) = object (member (codes "bytes") (bytes_data bytes) no_members)

abbrev pub replies_data : List Reply → Data
replies_data replies = array (items_of (map reply_data replies))

-- an event of this name about a blob, with these further members
abbrev pub about : List ℕ → BlobId → Members → Data
about name id more =
    object (member (codes "do") (string name) (member (codes "id") (id_data id) more))

abbrev pub of_shard : ℕ → Members
of_shard shard = member (codes "shard") (number_data shard) no_members

abbrev pub event_data : Event → Data
event_data (Register id until) =
    about (codes "register") id (member (codes "until") (number_data until) no_members)
event_data (Write blob to) =
    object (member (codes "blob") (bytes_data blob)
    (member (codes "do") (string (codes "write")) (member (codes "to") (list_data to) no_members)))
event_data (Send at shard bytes) =
    object (member (codes "at") (side_data at) (member (codes "bytes")
    (bytes_data bytes) (member (codes "do") (string (codes "send")) (of_shard shard))))
event_data (Ack shard id) = about (codes "ack") id (of_shard shard)
event_data (Attest shard id) = about (codes "attest") id (of_shard shard)
event_data (Read id replies) =
    about (codes "read") id (member (codes "replies") (replies_data replies) no_members)
event_data (Recover at shard axis id replies) =
    object (member (codes "at") (side_data at)
    (member (codes "axis") (axis_data axis) (member (codes "do") (string (codes "recover"))
    (member (codes "id") (id_data id)
    (member (codes "replies") (replies_data replies) (of_shard shard))))))
event_data (Forget at shard id) =
    object (member (codes "at") (side_data at) (member (codes "do")
    (string (codes "forget")) (member (codes "id") (id_data id) (of_shard shard))))
event_data (Begin owners faulty stays) =
    object (member (codes "do") (string (codes "begin"))
    (member (codes "faulty") (list_data faulty) (member (codes "owners")
    (list_data owners) (member (codes "stays") (list_data stays) no_members))))
event_data (Ready shard) = object (member (codes "do") (string (codes "ready")) (of_shard shard))
event_data Finish = object (member (codes "do") (string (codes "finish")) no_members)
event_data (Certificate id) = about (codes "certificate") id no_members
event_data (Holders id) = about (codes "holders") id no_members

abbrev pub events_data : List Event → Data
events_data events = array (items_of (map event_data events))

-- the value that is written for a schedule
abbrev pub schedule_data : Schedule → Data
schedule_data schedule =
    object (member (codes "epoch") (number_data schedule.epoch)
    (member (codes "events") (events_data schedule.events)
    (member (codes "f") (number_data schedule.f)
    (member (codes "faulty") (list_data schedule.faulty) (member (codes "format")
    (format_data schedule.format)
    (member (codes "owners") (list_data schedule.owners) no_members))))))

-- an identifier is 32 bytes
pub record IsId (id : BlobId) : Type 0 where
  pub long : length id.0 ≡ 32
  pub bytes : IsBytes id.0

-- the bytes of a reply are bytes
abbrev pub HasReplyBytes : Reply → Type 0
HasReplyBytes (reply.True side shard) = Unit
HasReplyBytes (reply.Bytes bytes) = IsBytes bytes

-- the identifiers of an event are such, and its bytes are bytes
abbrev pub HasBytes : Event → Type 0
HasBytes (Register id until) = IsId id
HasBytes (Write blob to) = IsBytes blob
HasBytes (Send at shard bytes) = IsBytes bytes
HasBytes (Ack shard id) = IsId id
HasBytes (Attest shard id) = IsId id
HasBytes (Read id replies) = IsId id × AllByRecursion HasReplyBytes replies
HasBytes (Recover at shard axis id replies) = IsId id × AllByRecursion HasReplyBytes replies
HasBytes (Forget at shard id) = IsId id
HasBytes (Begin owners faulty stays) = Unit
HasBytes (Ready shard) = Unit
HasBytes Finish = Unit
HasBytes (Certificate id) = IsId id
HasBytes (Holders id) = IsId id
