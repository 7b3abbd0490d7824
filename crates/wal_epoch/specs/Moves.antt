-- The answers of the moves between the two states, and when each is given.
use Rattle.std.specs.Prelude.{◌≡◌, ℕ, ◌<◌, ◌≤◌, Bool, true, false, ◌&&◌, nat_le, List, [], Result}
use Rattle.std.specs.Prelude.{Ok, Err}
use Rattle.wal_ledger.specs.declared.entry.Body.TheVariants.{Begin, Finish}
use Rattle.wal_ledger.specs.Ledger.{Log, reading, takes_in, ready_total}
use Rattle.wal_ledger.specs.Shards.{committee_size, quorum_size}
use Rattle.wal_epoch.specs.declared.answers.CreateError.{CreateError}
use Rattle.wal_epoch.specs.declared.answers.CreateError.TheVariants as creating
use Rattle.wal_epoch.specs.declared.answers.BeginError.{BeginError}
use Rattle.wal_epoch.specs.declared.answers.BeginError.TheVariants as beginning
use Rattle.wal_epoch.specs.declared.answers.FinishError.{FinishError}
use Rattle.wal_epoch.specs.declared.answers.FinishError.TheVariants as finishing
use Rattle.wal_shape.specs.Owners.{is_ascending, is_committee}
use Rattle.wal_epoch.specs.States.{ServingState, MovingState}

-- a number of faults that a committee may have
abbrev pub is_fault_count : ℕ → Bool
is_fault_count f = nat_le 1 f && nat_le f 333

-- numbers from which a state may be made
pub record IsFit (f epoch : ℕ) : Type 0 where
  pub faults : is_fault_count f ≡ true
  pub epochs : epoch ≤ 65535

-- `create`, by its answer
abbrev pub Creates : ℕ → ℕ → List ℕ → List ℕ → ℕ → Result ServingState CreateError → Type 0
Creates f epoch owners faulty room (Ok serving) =
    IsFit f epoch × (is_committee (committee_size f) owners faulty ≡ true)
    × (serving ≡ record {
      ledger = record {
        log = record { f = f; first = epoch; owners = owners; entries = [] };
        spare = room;
      };
      faulty = faulty;
    })
Creates f epoch owners faulty room (Err creating.BadFaults) = is_fault_count f ≡ false
Creates f epoch owners faulty room (Err creating.BadEpoch) =
    (is_fault_count f ≡ true) × (65535 < epoch)
Creates f epoch owners faulty room (Err creating.BadCommittee) =
    IsFit f epoch × (is_committee (committee_size f) owners faulty ≡ false)
Creates f epoch owners faulty room (Err creating.Memory) =
    IsFit f epoch × (is_committee (committee_size f) owners faulty ≡ true)

-- a committee of a ledger's size, and a list of shards that stay
abbrev pub is_next_committee : Log → List ℕ → List ℕ → List ℕ → Bool
is_next_committee log owners faulty stays =
    is_committee (committee_size log.f) owners faulty && is_ascending (committee_size log.f) stays

-- an epoch that is not the last, and a committee
pub record MayBegin (log : Log) (owners faulty stays : List ℕ) : Type 0 where
  pub epoch : reading log < 65535
  pub committee : is_next_committee log owners faulty stays ≡ true

-- `begin`, by its answer: the state, the next committee's owners and faulty shards, and the shards
-- that stay
abbrev pub Begins : ServingState → List ℕ → List ℕ → List ℕ
    → Result MovingState (ServingState × BeginError) → Type 0
Begins serving owners faulty stays (Ok moving) =
    MayBegin serving.ledger.log owners faulty stays × (0 < serving.ledger.spare)
    × (moving ≡ record {
      ledger = takes_in serving.ledger (Begin owners);
      faulty_now = serving.faulty;
      faulty_next = faulty;
      stays = stays;
    })
Begins serving owners faulty stays (Err (same, beginning.LastEpoch)) =
    (reading serving.ledger.log ≡ 65535) × (same ≡ serving)
Begins serving owners faulty stays (Err (same, beginning.BadCommittee)) =
    (reading serving.ledger.log < 65535)
    × (is_next_committee serving.ledger.log owners faulty stays ≡ false)
    × (same ≡ serving)
Begins serving owners faulty stays (Err (same, beginning.NoRoom)) =
    MayBegin serving.ledger.log owners faulty stays × (serving.ledger.spare ≡ 0) × (same ≡ serving)

-- `finish`, by its answer
abbrev pub FinishesEpoch : MovingState → Result ServingState (MovingState × FinishError) → Type 0
FinishesEpoch moving (Ok serving) =
    (quorum_size moving.ledger.log.f ≤ ready_total moving.ledger.log) × (0 < moving.ledger.spare)
    × (serving ≡ record { ledger = takes_in moving.ledger Finish; faulty = moving.faulty_next })
FinishesEpoch moving (Err (same, finishing.Waiting ready)) =
    (ready ≡ ready_total moving.ledger.log) × (ready < quorum_size moving.ledger.log.f)
    × (same ≡ moving)
FinishesEpoch moving (Err (same, finishing.NoRoom)) =
    (quorum_size moving.ledger.log.f ≤ ready_total moving.ledger.log) × (moving.ledger.spare ≡ 0)
    × (same ≡ moving)
