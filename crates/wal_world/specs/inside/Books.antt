-- The ledger with its committee, or its two committees while the epoch changes.
use Rattle.std.specs.Prelude.{◌≡◌, ℕ, ◌<◌, ◌≤◌, true, false, List, [], Option, Some, None}
use Rattle.wal_shape.specs.declared.axis.Side.{Side}
use Rattle.wal_shape.specs.declared.axis.Side.TheVariants.{Now, Next}
use Rattle.wal_ledger.specs.declared.entry.Body.TheVariants as entry
use Rattle.wal_ledger.specs.Shards.{quorum_size}
use Rattle.wal_ledger.specs.Ledger.{LedgerState, is_moving, reading, ready_total, takes_in}
use Rattle.wal_epoch.specs.Moves.{MayBegin, is_next_committee}
use Rattle.wal_epoch.specs.declared.answers.BeginError.{BeginError}
use Rattle.wal_epoch.specs.declared.answers.BeginError.TheVariants as beginning
use Rattle.wal_epoch.specs.declared.answers.FinishError.{FinishError}
use Rattle.wal_epoch.specs.declared.answers.FinishError.TheVariants as finishing
use Rattle.wal_world.specs.declared.books.Books.{Books}
use Rattle.wal_world.specs.declared.books.Books.TheVariants.{Serving, Moving}

-- the ledger of the books, and the faulty shards of each side
abbrev pub ledger_of : Option Books → LedgerState
ledger_of (Some (Serving serving)) = serving.ledger
ledger_of (Some (Moving moving)) = moving.ledger
ledger_of None = record { log = record { f = 0; first = 0; owners = []; entries = [] }; spare = 0 }

abbrev pub faulty_on : Side → Option Books → List ℕ
faulty_on Now (Some (Serving serving)) = serving.faulty
faulty_on Now (Some (Moving moving)) = moving.faulty_now
faulty_on Next (Some (Moving moving)) = moving.faulty_next
faulty_on _ _ = []

-- the books are there, and the ledger says whether the epoch changes
abbrev pub AreBooks : Option Books → Type 0
AreBooks (Some (Serving serving)) = is_moving serving.ledger.log ≡ false
AreBooks (Some (Moving moving)) = is_moving moving.ledger.log ≡ true
AreBooks None = ⊥

-- the same books, but for the ledger
abbrev pub books_with : Option Books → LedgerState → Option Books
books_with (Some (Serving serving)) ledger = Some (Serving (record serving { ledger = ledger }))
books_with (Some (Moving moving)) ledger = Some (Moving (record moving { ledger = ledger }))
books_with None ledger = None

-- the epoch began to change, to a committee with these owners and faulty shards
pub record IsBegun (old : Option Books) (owners faulty stays : List ℕ)
    (new : Option Books) : Type 0 where
  pub may : MayBegin (ledger_of old).log owners faulty stays
  pub room : 0 < (ledger_of old).spare
  pub books : new ≡ Some (Moving (record {
    ledger = takes_in (ledger_of old) (entry.Begin owners);
    faulty_now = faulty_on Now old;
    faulty_next = faulty;
    stays = stays;
  }))
  pub moving : is_moving (ledger_of new).log ≡ true

-- why it did not
abbrev pub IsBeginError : LedgerState → List ℕ → List ℕ → List ℕ → BeginError → Type 0
IsBeginError ledger owners faulty stays beginning.LastEpoch = reading ledger.log ≡ 65535
IsBeginError ledger owners faulty stays beginning.BadCommittee =
    (reading ledger.log < 65535) × (is_next_committee ledger.log owners faulty stays ≡ false)
IsBeginError ledger owners faulty stays beginning.NoRoom =
    MayBegin ledger.log owners faulty stays × (ledger.spare ≡ 0)

-- the change of the epoch ended: the next committee serves
pub record IsFinished (old new : Option Books) : Type 0 where
  pub quorum : quorum_size (ledger_of old).log.f ≤ ready_total (ledger_of old).log
  pub room : 0 < (ledger_of old).spare
  pub books : new ≡ Some (Serving
      (record { ledger = takes_in (ledger_of old) entry.Finish; faulty = faulty_on Next old }))
  pub serving : is_moving (ledger_of new).log ≡ false

-- why it did not
abbrev pub IsFinishError : LedgerState → FinishError → Type 0
IsFinishError ledger (finishing.Waiting ready) =
    (ready ≡ ready_total ledger.log) × (ready < quorum_size ledger.log.f)
IsFinishError ledger finishing.NoRoom =
    (quorum_size ledger.log.f ≤ ready_total ledger.log) × (ledger.spare ≡ 0)
