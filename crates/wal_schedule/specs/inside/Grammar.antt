-- What serves private functions and proofs beside Grammar.
use Rattle.std.specs.Prelude.{◌≡◌, ℕ, ◌+◌, ◌&&◌, nat_le, bytes_eq, codes, if◌then◌else◌, List, ◌++◌}
use Rattle.std.specs.Prelude.{Option, Result, Ok, Err, ⊤, IsTrue, ◌≤◌}
use Rattle.serde_json.specs.Data.{Data}
use Rattle.wal_shape.specs.declared.shape.Format.{Format}
use Rattle.wal_shape.specs.Shape.{shard_count}
use Rattle.wal_shape.specs.Owners.{is_committee}
use Rattle.wal_event.specs.declared.event.Event.{Event}
use Rattle.wal_event.specs.declared.event.Schedule.{Schedule}
use Rattle.wal_schedule.specs.declared.read.Head.{Head}
use Rattle.wal_schedule.specs.declared.read.ScheduleError.{ScheduleError}
use Rattle.wal_schedule.specs.declared.read.ScheduleError.TheVariants.{NotJson, BadSchedule}
use Rattle.wal_schedule.specs.declared.read.ScheduleError.TheVariants.{TooMany, BadEvent, Memory}
use Rattle.wal_schedule.specs.Reading.{◌>>=◌, given, list_at, with_keys}
use Rattle.wal_schedule.specs.Grammar.{attest_of, forget_of, later_named, one_if_has, owners_at}
use Rattle.wal_schedule.specs.Grammar.{read_of, recover_of}

-- the event of this name, if it is none of the first four
abbrev pub held_named : ℕ → Data → List ℕ → Option Event
held_named n value name =
    if bytes_eq name (codes "attest") then attest_of value
    else (if bytes_eq name (codes "read") then read_of value
    else (if bytes_eq name (codes "recover") then recover_of value
    else (if bytes_eq name (codes "forget") then forget_of value
    else later_named n value name)))

-- the head with these numbers and the lists of an object
abbrev pub head_with : ℕ → ℕ → Format → Data → Option Head
head_with f epoch format value = do
  owners ← owners_at (shard_count f) value
  faulty ← list_at (codes "faulty") value
  head ← given (nat_le 1 f && is_committee (shard_count f) owners faulty)
      (record { f = f; epoch = epoch; format = format; owners = owners; faulty = faulty })
  with_keys (4 + one_if_has (codes "format") value + one_if_has (codes "owners") value) value head

-- events put before those of the rest
abbrev pub after : List Event → Result (List Event) ℕ → Result (List Event) ℕ
after xs (Ok ys) = Ok (xs ++ ys)
after xs (Err number) = Err number

-- what is told of the events of a list, unless memory runs out
abbrev pub TellsEvents : Result (List Event) ScheduleError → Result (List Event) ℕ → Type 0
TellsEvents (Ok events) told = told ≡ Ok events
TellsEvents (Err NotJson) told = ⊥
TellsEvents (Err BadSchedule) told = ⊥
TellsEvents (Err TooMany) told = ⊥
TellsEvents (Err (BadEvent number)) told = told ≡ Err number
TellsEvents (Err Memory) told = ⊤

-- the head of a schedule is in range
pub record IsHead (head : Head) : Type 0 where
  pub least : 1 ≤ head.f
  pub most : head.f ≤ 333
  pub epoch_most : head.epoch ≤ 65535
  pub committee : IsTrue (is_committee (shard_count head.f) head.owners head.faulty)

-- what is read from a value, unless memory runs out
abbrev pub Tells : Result Schedule ScheduleError → Result Schedule ScheduleError → Type 0
Tells (Ok schedule) told = told ≡ Ok schedule
Tells (Err NotJson) told = ⊥
Tells (Err BadSchedule) told = told ≡ Err BadSchedule
Tells (Err TooMany) told = told ≡ Err TooMany
Tells (Err (BadEvent number)) told = told ≡ Err (BadEvent number)
Tells (Err Memory) told = ⊤
