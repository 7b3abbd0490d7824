-- The two states of an epoch.
use Rattle.std.specs.Prelude.{◌≡◌, ℕ, Bool, true, false, List}
use Rattle.wal_shape.specs.declared.axis.Side.{Side}
use Rattle.wal_shape.specs.declared.axis.Side.TheVariants.{Now, Next}
use Rattle.wal_shape.specs.Owners.{is_ascending, is_closed}
use Rattle.wal_ledger.specs.Ledger.{Log, LedgerState, is_moving, owners_of}
use Rattle.wal_ledger.specs.Shards.{committee_size}
use Rattle.wal_ledger.specs.Kept.{IsLawful}
use Rattle.wal_epoch.specs.Committee.{is_carried}

-- one committee: the ledger, and the faulty shards
pub record ServingState : Type 0 where
  pub ledger : LedgerState
  pub faulty : List ℕ

-- two committees: the ledger, the faulty shards of each, and the shards that stay
pub record MovingState : Type 0 where
  pub ledger : LedgerState
  pub faulty_now : List ℕ
  pub faulty_next : List ℕ
  pub stays : List ℕ

-- the faulty shards of a side
abbrev pub faulty_of : Side → MovingState → List ℕ
faulty_of Now moving = moving.faulty_now
faulty_of Next moving = moving.faulty_next

-- whether a shard takes what it holds into the next epoch
abbrev pub is_carried_in : MovingState → ℕ → Bool
is_carried_in moving shard =
    is_carried (owners_of Now moving.ledger.log) moving.faulty_now
    (owners_of Next moving.ledger.log) moving.faulty_next moving.stays shard

-- the ledger serves, the list is of its committee and closed by its owners, and the ledger is
-- lawful
pub record IsServing (log : Log) (faulty : List ℕ) : Type 0 where
  pub serves : is_moving log ≡ false
  pub faulty_shards : is_ascending (committee_size log.f) faulty ≡ true
  pub closed : is_closed (owners_of Now log) faulty ≡ true
  pub lawful : IsLawful log

-- the ledger moves, the lists are of its committees, the faulty ones closed by their owners, and
-- the ledger is lawful
pub record IsMoving (log : Log) (faulty_now faulty_next stays : List ℕ) : Type 0 where
  pub moves : is_moving log ≡ true
  pub now_shards : is_ascending (committee_size log.f) faulty_now ≡ true
  pub now_closed : is_closed (owners_of Now log) faulty_now ≡ true
  pub next_shards : is_ascending (committee_size log.f) faulty_next ≡ true
  pub next_closed : is_closed (owners_of Next log) faulty_next ≡ true
  pub staying_shards : is_ascending (committee_size log.f) stays ≡ true
  pub lawful : IsLawful log
