-- What serves private functions and proofs beside Creating.
use Rattle.std.specs.Prelude.{◌≡◌, ℕ, Bool, true, List, Result, Ok, Err}
use Rattle.std.specs.FinMap as finmap
use Rattle.wal_shape.specs.declared.shape.Format.{Format}
use Rattle.wal_shape.specs.Owners.{is_committee}
use Rattle.wal_ledger.specs.Shards.{committee_size}
use Rattle.wal_epoch.specs.States.{ServingState}
use Rattle.wal_epoch.specs.Moves.{IsFit, Creates}
use Rattle.wal_epoch.specs.declared.answers.CreateError.{CreateError}
use Rattle.wal_protocol.specs.State.{World, nobody}
use Rattle.wal_protocol.specs.Run.{empty_committee}
use Rattle.wal_world.specs.inside.Network.{IsNetwork, spare_of, world_of}
use Rattle.wal_world.specs.declared.network.Network.{Network}
use Rattle.wal_world.specs.Creating.{first_of}

-- the state with this ledger, in which nothing is held or completed
abbrev pub state_with : Format → ServingState → Bool → World
state_with format serving few =
    record {
      format = format;
      log = serving.ledger.log;
      now = empty_committee serving.ledger.log.f serving.faulty;
      next = nobody;
      few = few;
      answers = finmap.empty;
    }

-- a network with this ledger, in which nothing is held or completed
pub record IsFresh {H : Type 0} (format : Format)
    (serving : ServingState) (few : Bool) (n : Network H) : Type 0 where
  pub network : IsNetwork n
  pub world : world_of n ≡ state_with format serving few
  pub spare : spare_of n ≡ serving.ledger.spare

-- a network in the first state, with room for so many entries
pub record IsFirst {H : Type 0} (f epoch : ℕ) (format : Format)
    (owners faulty : List ℕ) (room : ℕ) (n : Network H) : Type 0 where
  pub fit : IsFit f epoch
  pub committee : is_committee (committee_size f) owners faulty ≡ true
  pub network : IsNetwork n
  pub world : world_of n ≡ first_of format f epoch owners faulty
  pub spare : spare_of n ≡ room

-- the network, or a refusal, by the epoch's rule
abbrev pub CreatesNetwork : {H : Type 0} → ℕ → ℕ → Format → List ℕ → List ℕ → ℕ
    → Result (Network H) CreateError → Type 0
CreatesNetwork f epoch format owners faulty room (Ok n) =
    IsFirst f epoch format owners faulty room n
CreatesNetwork f epoch format owners faulty room (Err error) =
    Creates f epoch owners faulty room (Err error)
