-- What serves private functions and proofs beside World.
use Rattle.std.specs.Prelude.{◌≡◌, ℕ, ◌≤◌, Bool, false, List, refl}
use Rattle.std.specs.FinMap as finmap
use Rattle.std.specs.Coded.{Coded, code_by, coded×, coded_bool, coded_list, coded_ℕ}
use Rattle.wal_shape.specs.declared.shape.Format.{Format}
use Rattle.wal_shape.specs.contracts.shape.Format as format
use Rattle.wal_shape.specs.Identifiers.{id_cmp}
use Rattle.wal_ledger.specs.Ledger.{Log, LedgerState}
use Rattle.wal_ledger.specs.contracts.ledger.Ledger as ledger
use Rattle.wal_store.specs.inside.Identifier.{id_code}
use Rattle.wal_store.specs.inside.Parts.{parts_code}
use Rattle.wal_store.specs.Contents.{Contents}
use Rattle.wal_protocol.specs.declared.first.First.{First}
use Rattle.wal_protocol.specs.contracts.first.First as first
use Rattle.wal_protocol.specs.State.{World, Committee}
use Rattle.wal_protocol.specs.Facts.{Facts}
use Rattle.wal_theorem.specs.Instance.{rules_of}
use Rattle.wal_world.specs.inside.Network.{IsNetwork, world_of}
use Rattle.wal_world.specs.declared.network.Network.{Network}
use Rattle.wal_world.specs.World.{WorldState}

-- unless it is dead, its network is whole, and the state has all facts
pub record IsWorld {H : Type 0} (digest : List ℕ → List ℕ)
    (n : Network H) (dead : Bool) : Type 0 where
  pub network : dead ≡ false → IsNetwork n
  pub most : dead ≡ false → (world_of n).log.f ≤ 333
  pub facts : dead ≡ false → Facts (rules_of digest (world_of n).log.f) (world_of n)

-- a ledger's log is stored as the ledger in which no more entries fit
abbrev log_code : Coded Log
log_code =
    code_by LedgerState ledger.the_row.coded
    (λ kept. record { log = kept; spare = 0 }) (λ state. state.log) (λ _. refl)

-- a committee is stored as the pair of its lists
abbrev committee_code : Coded Committee
committee_code =
    code_by (List ℕ × List Contents)
    (coded× (coded_list coded_ℕ) (coded_list (finmap.code id_code parts_code)))
    (λ committee. (committee.faulty, committee.shards))
    (λ tuple. record { faulty = tuple.0; shards = tuple.1 }) (λ _. refl)

-- a state is stored as the tuple of its parts
abbrev state_code : Coded World
state_code =
    code_by (Format × (Log × (Committee × (Committee × (Bool × finmap.FinMap id_cmp First)))))
    (coded× format.the_row.coded (coded× log_code (coded× committee_code
    (coded× committee_code (coded× coded_bool (finmap.code id_code first.the_row.coded))))))
    (λ world. (world.format, (world.log, (world.now, (world.next, (world.few, world.answers))))))
    (λ tuple. record {
      format = tuple.0;
      log = tuple.1.0;
      now = tuple.1.1.0;
      next = tuple.1.1.1.0;
      few = tuple.1.1.1.1.0;
      answers = tuple.1.1.1.1.1;
    })
    (λ _. refl)

-- what callers see of a world is stored as the tuple of its parts
abbrev pub world_code : Coded WorldState
world_code =
    code_by (World × (ℕ × (Bool × Bool)))
    (coded× state_code (coded× coded_ℕ (coded× coded_bool coded_bool)))
    (λ world. (world.state, (world.room, (world.dead, world.ended))))
    (λ tuple. record { state = tuple.0; room = tuple.1.0; dead = tuple.1.1.0; ended = tuple.1.1.1 })
    (λ _. refl)
