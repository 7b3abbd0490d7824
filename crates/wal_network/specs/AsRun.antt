-- A network's history as a run of the world of schedules.
use Rattle.std.specs.Prelude.{◌≡◌, ℕ, zero, suc, ◌+◌, ◌<◌, ◌≤◌, true, false, cond, nat_le, List}
use Rattle.std.specs.Prelude.{[], ◌∷◌, map, length, ◌++◌}
use Rattle.std.specs.FinMap as finmap
use Rattle.wal_shape.specs.declared.axis.Side.{Side}
use Rattle.wal_shape.specs.declared.axis.Side.TheVariants.{Now, Next}
use Rattle.wal_shape.specs.Owners.{among}
use Rattle.wal_event.specs.declared.event.Event.{Event}
use Rattle.wal_event.specs.declared.event.Event.TheVariants as event
use Rattle.wal_event.specs.declared.line.Line.{Line}
use Rattle.wal_ledger.specs.declared.entry.Body.{Body}
use Rattle.wal_ledger.specs.declared.entry.Body.TheVariants.{Register, Ack, Attest, Begin, Ready}
use Rattle.wal_ledger.specs.declared.entry.Body.TheVariants.{Finish}
use Rattle.wal_ledger.specs.Shards.{committee_size}
use Rattle.wal_ledger.specs.Ledger.{is_moving, reading, writing}
use Rattle.wal_store.specs.Contents.{Contents}
use Rattle.wal_protocol.specs.Rules.{Rules}
use Rattle.wal_protocol.specs.State.{Committee, World, side_of, is_present, epoch_of, contents_of}
use Rattle.wal_protocol.specs.State.{nobody}
use Rattle.wal_protocol.specs.Run.{Runs, GoesOn, empty_committee}
use Rattle.wal_protocol.specs.Facts.{Facts}
use Rattle.wal_network.specs.Deeds.{Done, deed_event}
use Rattle.wal_network.specs.Network.{Network, log_at, leaves_with, HasFew}

-- the committee of an epoch is one of the world: it has these faulty shards, and its correct ones
-- hold this
pub record StandsFor (network : Network) (holds : ℕ → ℕ → Contents) (epoch f : ℕ)
    (committee : Committee) : Type 0 where
  pub sized : length committee.shards ≡ committee_size f
  pub faulty : committee.faulty ≡ network.faulty epoch
  pub contents : (shard : ℕ) → shard < committee_size f
      → among (network.faulty epoch) shard ≡ false
      → contents_of committee shard ≡ holds epoch shard

-- a world shows the network at a prefix, where its shards hold this
pub record IsShownBy (network : Network) (at : ℕ) (holds : ℕ → ℕ → Contents) (world : World)
    : Type 0 where
  pub log : world.log ≡ log_at network at
  pub few : HasFew network at → world.few ≡ true
  pub sides : (side : Side) → is_present side world ≡ true
      → StandsFor network holds (epoch_of side world) world.log.f (side_of side world)

-- the last of these states
abbrev pub last_world : World → List World → World
last_world old [] = old
last_world old (new ∷ more) = last_world new more

-- what is told: events, each with its line
abbrev pub Told : Type 0
Told = List (Event × Line)

-- a run of the world between two states, of these events with these lines, none of them a collision
pub record LeadsTo (rules : Rules) (old : World) (told : Told) (new : World) : Type 0 where
  pub states : List World
  pub run : Runs rules old (map (λ one. one.0) told) states (map (λ one. one.1) told)
  pub goes_on : GoesOn (map (λ one. one.1) told)
  pub ends : last_world old states ≡ new

-- behind what was told before: the deeds of a shard, in its order
abbrev pub deeds_told : Side → ℕ → Told → List Done → Told
deeds_told side shard before [] = before
deeds_told side shard before (done ∷ more) =
    deeds_told side shard (before ++ (deed_event side shard done.deed, done.said) ∷ []) more

-- those of the correct ones of the first shards of a side
abbrev pub side_told : Network → ℕ → ℕ → Side → Told → ℕ → Told
side_told network at epoch side before zero = before
side_told network at epoch side before (suc count) =
    cond (among (network.faulty epoch) count) (side_told network at epoch side before count)
    (deeds_told side count (side_told network at epoch side before count)
    (network.deeds at epoch count))

-- and of all that is done at a prefix: by the committee that serves, and by the next one
abbrev pub prefix_told : Network → ℕ → Told → Told
prefix_told network at before =
    let log = log_at network at in
    let served = side_told network at (reading log) Now before (committee_size log.f) in
    cond (is_moving log) (side_told network at (writing log) Next served (committee_size log.f))
    served

-- an entry as an event of the world
abbrev pub entry_event : Network → ℕ → Body → Event
entry_event network at (Register id until) = event.Register id until
entry_event network at (Ack shard id) = event.Ack shard id
entry_event network at (Attest shard id) = event.Attest shard id
entry_event network at (Begin owners) =
    let epoch = writing (log_at network at) + 1 in
    event.Begin owners (network.faulty epoch) (network.stays epoch)
entry_event network at (Ready shard) = event.Ready shard
entry_event network at Finish = event.Finish

-- all that is told up to a prefix: each deed with the answer that its shard gave, sorted by the
-- prefix, and each entry with some line
abbrev pub IsTold : Network → ℕ → Told → Type 0
IsTold network zero told = told ≡ prefix_told network zero []
IsTold network (suc at) told =
    (before : Told) × (said : Line) × IsTold network at before
    × (told ≡ prefix_told network (suc at)
    (before ++ (entry_event network at (network.body at), said) ∷ []))

-- the world in which the network begins
abbrev pub first_of : Network → World
first_of network = record {
  format = network.format;
  log = network.start;
  now = empty_committee network.start.f (network.faulty (reading network.start));
  next = nobody;
  few = nat_le (length (network.faulty (reading network.start))) network.start.f;
  answers = finmap.empty;
}

-- A HISTORY IS A RUN: up to each prefix it is one of the world, with the same ledger, the same
-- holdings of correct shards and the same answers, in a state that has the facts of every run
abbrev pub IsRunOfWorld : Rules → Network → ℕ → Type 0
IsRunOfWorld rules network size =
    (at : ℕ) → at ≤ size
    → (world : World) × (told : Told) × IsTold network at told
    × LeadsTo rules (first_of network) told world
    × IsShownBy network at (leaves_with network at) world × Facts rules world
