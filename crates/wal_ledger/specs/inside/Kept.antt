-- What serves private functions and proofs beside Kept.
use Rattle.std.specs.Prelude.{◌≡◌, ℕ, zero, suc, ◌<◌, ◌≤◌, Bool, List, length, Some, slice_get}
use Rattle.wal_shape.specs.declared.metadata.BlobId.{BlobId}
use Rattle.wal_shape.specs.declared.axis.Side.TheVariants.{Now, Next}
use Rattle.wal_shape.specs.Owners.{node_of}
use Rattle.wal_ledger.specs.declared.entry.Entry.{Entry}
use Rattle.wal_ledger.specs.declared.entry.Body.TheVariants.{Begin}
use Rattle.wal_ledger.specs.Shards.{committee_size}
use Rattle.wal_ledger.specs.inside.Flags.{flag_of}
use Rattle.wal_ledger.specs.inside.Rows.{Rows, IsRow, row_in, living}
use Rattle.wal_ledger.specs.inside.Book.{BookState}
use Rattle.wal_ledger.specs.Ledger.{Log, reading, is_moving, owners_at, owners_of, registered}
use Rattle.wal_ledger.specs.Ledger.{own_entries, ready_shards, ready_total}
use Rattle.wal_ledger.specs.Kept.{IsLawful}

-- the ledger of entries from an epoch on with its owners
abbrev pub log_of : ℕ → ℕ → List ℕ → BookState → Log
log_of f first owners book =
    record { f = f; first = first; owners = owners; entries = book.entries }

-- where owners stand: 0 stands for the first ones, and one more than the place of a Begin for those
-- that it brought
abbrev pub StandAt : List ℕ → List Entry → ℕ → List ℕ → Type 0
StandAt start entries zero owners = owners ≡ start
StandAt start entries (suc place) owners =
    (epoch : ℕ) × (slice_get entries place ≡ Some (record { epoch = epoch; body = Begin owners }))

-- what is kept beside the entries: the reading epoch and whether it changes, where the owners of
-- the reading and of the writing epoch stand, the identifiers, each with a row that tells what its
-- own entries do, and those that are live, a flag for each node that is ready, and how many shards
-- these nodes run
pub record IsKept (log : Log) (spare : ℕ) (links : List ℕ) (epoch : ℕ) (moving : Bool)
    (now next : ℕ) (table : Rows) (flags : List Bool) (total : ℕ) : Type 0 where
  pub lawful : IsLawful log
  pub epoch_is : epoch ≡ reading log
  pub moving_is : moving ≡ is_moving log
  pub now_at : StandAt log.owners log.entries now (owners_of Now log)
  pub next_at : StandAt log.owners log.entries next (owners_of Next log)
  pub ids_are : table.ids ≡ registered log.entries
  pub ids_fit : spare ≤ table.spare
  pub linked : length links ≡ length log.entries
  pub rows : (id : BlobId)
      → IsRow log.f (owners_at log) (own_entries log id) log.entries links (row_in table id)
  pub nodes : length flags ≡ committee_size log.f
  pub ready : (shard : ℕ) → shard < committee_size log.f
      → flag_of flags (node_of (owners_of Next log) shard) ≡ ready_shards log shard
  pub counted : total ≡ ready_total log
  pub alive : table.live ≡ living epoch table
