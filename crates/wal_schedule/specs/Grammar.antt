-- Schedules as JSON: which value is which schedule, and what is wrong with a value that is none.
use Rattle.std.specs.Prelude.{◌≡◌, ℕ, ◌+◌, ◌==◌, ◌&&◌, nat_le, nat_lt, cond, Bool, true, bytes_eq}
use Rattle.std.specs.Prelude.{List, [], ◌∷◌, codes, Option, Some, None, is_some, Result, Ok, Err}
use Rattle.std.specs.Prelude.{if◌then◌else◌, ⊤, IsUtf8}
use Rattle.std.specs.List.{range_with_len}
use Rattle.serde_json.specs.Data.{Data, Items, no_items, item}
use Rattle.serde_json.specs.Events.{items_len}
use Rattle.serde_json.specs.Find.{get, as_object}
use Rattle.serde_json.specs.Read.{read}
use Rattle.wal_shape.specs.declared.shape.Format.{Format}
use Rattle.wal_shape.specs.declared.shape.Format.TheVariants.{One, Two}
use Rattle.wal_shape.specs.Shape.{shard_count}
use Rattle.wal_shape.specs.Owners.{is_committee}
use Rattle.wal_event.specs.declared.event.Reply.{Reply}
use Rattle.wal_event.specs.declared.event.Reply.TheVariants as reply
use Rattle.wal_event.specs.declared.event.Event.{Event}
use Rattle.wal_event.specs.declared.event.Event.TheVariants.{Register, Write, Send, Ack, Attest}
use Rattle.wal_event.specs.declared.event.Event.TheVariants.{Read, Recover, Forget, Begin, Ready}
use Rattle.wal_event.specs.declared.event.Event.TheVariants.{Finish, Certificate, Holders}
use Rattle.wal_event.specs.declared.event.Schedule.{Schedule}
use Rattle.wal_event.specs.Event.{event_fits}
use Rattle.wal_schedule.specs.declared.read.Head.{Head}
use Rattle.wal_schedule.specs.declared.read.ScheduleError.{ScheduleError}
use Rattle.wal_schedule.specs.declared.read.ScheduleError.TheVariants.{NotJson, BadSchedule}
use Rattle.wal_schedule.specs.declared.read.ScheduleError.TheVariants.{TooMany, BadEvent, Memory}
use Rattle.wal_schedule.specs.Reading.{◌>>=◌, given, with_keys, whole_at, shard_at, text_at}
use Rattle.wal_schedule.specs.Reading.{bytes_at, id_at, side_at, axis_at, items_at, list_at}

-- a true reply has the shard and its side, and any other one has bytes
abbrev pub true_reply_of : Data → Option Reply
true_reply_of value = do
  shard ← whole_at 65535 (codes "true") value
  side ← side_at value
  with_keys 2 value (reply.True side shard)

abbrev pub bytes_reply_of : Data → Option Reply
bytes_reply_of value = do
  bytes ← bytes_at (codes "bytes") value
  with_keys 1 value (reply.Bytes bytes)

abbrev pub reply_of : Data → Option Reply
reply_of value =
    if is_some (get (codes "true") value) then true_reply_of value else bytes_reply_of value

-- replies, one after the other
abbrev pub replies_of : Items → Option (List Reply)
replies_of no_items = Some []
replies_of (item value values) = do
  x ← reply_of value
  xs ← replies_of values
  Some (x ∷ xs)

abbrev pub replies_at : Data → Option (List Reply)
replies_at value = do
  items ← items_at (codes "replies") value
  replies_of items

-- the numbers under the key `owners`; if it is missing, the own number of each of n shards
abbrev pub owners_at : ℕ → Data → Option (List ℕ)
owners_at n value =
    if is_some (get (codes "owners") value) then list_at (codes "owners") value
    else Some (range_with_len 0 n)

-- 1 if the object has this key, else 0
abbrev pub one_if_has : List ℕ → Data → ℕ
one_if_has key value = cond (is_some (get key value)) 1 0

unfoldable pub register_of : Data → Option Event
register_of value = do
  id ← id_at value
  until ← whole_at 4294967295 (codes "until") value
  with_keys 3 value (Register id until)

unfoldable pub write_of : Data → Option Event
write_of value = do
  blob ← bytes_at (codes "blob") value
  to ← list_at (codes "to") value
  with_keys 3 value (Write blob to)

unfoldable pub send_of : Data → Option Event
send_of value = do
  at ← side_at value
  shard ← shard_at value
  bytes ← bytes_at (codes "bytes") value
  with_keys 4 value (Send at shard bytes)

unfoldable pub ack_of : Data → Option Event
ack_of value = do
  shard ← shard_at value
  id ← id_at value
  with_keys 3 value (Ack shard id)

unfoldable pub attest_of : Data → Option Event
attest_of value = do
  shard ← shard_at value
  id ← id_at value
  with_keys 3 value (Attest shard id)

unfoldable pub read_of : Data → Option Event
read_of value = do
  id ← id_at value
  replies ← replies_at value
  with_keys 3 value (Read id replies)

unfoldable pub recover_of : Data → Option Event
recover_of value = do
  at ← side_at value
  shard ← shard_at value
  axis ← axis_at value
  id ← id_at value
  replies ← replies_at value
  with_keys 6 value (Recover at shard axis id replies)

unfoldable pub forget_of : Data → Option Event
forget_of value = do
  at ← side_at value
  shard ← shard_at value
  id ← id_at value
  with_keys 4 value (Forget at shard id)

unfoldable pub begin_of : ℕ → Data → Option Event
begin_of n value = do
  owners ← owners_at n value
  faulty ← list_at (codes "faulty") value
  stays ← list_at (codes "stays") value
  with_keys (3 + one_if_has (codes "owners") value) value (Begin owners faulty stays)

unfoldable pub ready_of : Data → Option Event
ready_of value = do
  shard ← shard_at value
  with_keys 2 value (Ready shard)

unfoldable pub finish_of : Data → Option Event
finish_of value = with_keys 1 value Finish

unfoldable pub certificate_of : Data → Option Event
certificate_of value = do
  id ← id_at value
  with_keys 2 value (Certificate id)

unfoldable pub holders_of : Data → Option Event
holders_of value = do
  id ← id_at value
  with_keys 2 value (Holders id)

-- the event of this name that an object spells, if it is one of a change of epochs or a question
abbrev pub later_named : ℕ → Data → List ℕ → Option Event
later_named n value name =
    if bytes_eq name (codes "begin") then begin_of n value
    else (if bytes_eq name (codes "ready") then ready_of value
    else (if bytes_eq name (codes "finish") then finish_of value
    else (if bytes_eq name (codes "certificate") then certificate_of value
    else (if bytes_eq name (codes "holders") then holders_of value else None))))

-- the same for any name
abbrev pub event_named : ℕ → Data → List ℕ → Option Event
event_named n value name =
    if bytes_eq name (codes "register") then register_of value
    else (if bytes_eq name (codes "write") then write_of value
    else (if bytes_eq name (codes "send") then send_of value
    else (if bytes_eq name (codes "ack") then ack_of value
    else (if bytes_eq name (codes "attest") then attest_of value
    else (if bytes_eq name (codes "read") then read_of value
    else (if bytes_eq name (codes "recover") then recover_of value
    else (if bytes_eq name (codes "forget") then forget_of value
    else later_named n value name)))))))

-- the event that a value is, if its numbers and lists are in range
unfoldable pub event_of : ℕ → Data → Option Event
event_of f value = do
  name ← text_at (codes "do") value
  event ← event_named (shard_count f) value name
  given (event_fits f event) event

-- an event put before those of the rest, or the number of a value that is no event
abbrev pub joined : ℕ → Option Event → Result (List Event) ℕ → Result (List Event) ℕ
joined number None rest = Err number
joined number (Some event) (Ok es) = Ok (event ∷ es)
joined number (Some event) (Err other) = Err other

-- the events that values are, the first of which has this number, or the number of the first value
-- that is no event
abbrev pub events_of : ℕ → ℕ → Items → Result (List Event) ℕ
events_of f number no_items = Ok []
events_of f number (item value values) =
    joined number (event_of f value) (events_of f (number + 1) values)

abbrev pub all_objects : Items → Bool
all_objects no_items = true
all_objects (item value values) = is_some (as_object value) && all_objects values

-- a list of objects
abbrev pub objects_at : Data → Option Items
objects_at value = do
  items ← items_at (codes "events") value
  given (all_objects items) items

-- 1 or 2; 1 if the key is missing
abbrev pub format_number : Data → Option ℕ
format_number value =
    if is_some (get (codes "format") value) then whole_at 2 (codes "format") value else Some 1

abbrev pub format_of : ℕ → Option Format
format_of number = if number == 1 then Some One else (if number == 2 then Some Two else None)

abbrev pub format_at : Data → Option Format
format_at value = do
  number ← format_number value
  format_of number

-- what a schedule says besides its events
unfoldable pub head_of : Data → Option Head
head_of value = do
  f ← whole_at 333 (codes "f") value
  epoch ← whole_at 65535 (codes "epoch") value
  format ← format_at value
  owners ← owners_at (shard_count f) value
  faulty ← list_at (codes "faulty") value
  head ← given (nat_le 1 f && is_committee (shard_count f) owners faulty)
      (record { f = f; epoch = epoch; format = format; owners = owners; faulty = faulty })
  with_keys (4 + one_if_has (codes "format") value + one_if_has (codes "owners") value) value head

-- the schedule with this head and these events
abbrev pub schedule_with : Head → Result (List Event) ℕ → Result Schedule ScheduleError
schedule_with head (Ok events) = Ok (record {
  f = head.f;
  epoch = head.epoch;
  format = head.format;
  owners = head.owners;
  faulty = head.faulty;
  events = events;
})
schedule_with head (Err number) = Err (BadEvent number)

-- at most 65,536 events
abbrev pub with_events : Head → Items → Result Schedule ScheduleError
with_events head items =
    if nat_lt 65536 (items_len items) then Err TooMany
    else schedule_with head (events_of head.f 1 items)

-- the head of a schedule, and the values that are to be its events
abbrev pub parts_of : Data → Option (Head × Items)
parts_of value = do
  head ← head_of value
  items ← objects_at value
  Some (head, items)

abbrev pub with_parts : Option (Head × Items) → Result Schedule ScheduleError
with_parts None = Err BadSchedule
with_parts (Some parts) = with_events parts.0 parts.1

-- the schedule that a value is, or what is wrong with it
unfoldable pub schedule_of : Data → Result Schedule ScheduleError
schedule_of value = with_parts (parts_of value)

-- the value that a text spells as JSON
abbrev pub HasValue : List ℕ → Data → Type 0
HasValue text value = IsUtf8 text × (read text ≡ Some value)

-- what is read from a text, unless memory runs out
abbrev pub IsRead : List ℕ → Result Schedule ScheduleError → Type 0
IsRead text (Ok schedule) = (value : Data) × HasValue text value × (schedule_of value ≡ Ok schedule)
IsRead text (Err NotJson) = (value : Data) → HasValue text value → ⊥
IsRead text (Err BadSchedule) =
    (value : Data) × HasValue text value × (schedule_of value ≡ Err BadSchedule)
IsRead text (Err TooMany) = (value : Data) × HasValue text value × (schedule_of value ≡ Err TooMany)
IsRead text (Err (BadEvent number)) =
    (value : Data) × HasValue text value × (schedule_of value ≡ Err (BadEvent number))
IsRead text (Err Memory) = ⊤
