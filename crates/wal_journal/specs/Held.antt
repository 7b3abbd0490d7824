-- What a journal is: the changes that its disk accepts, and where the gate behind their records
-- stands.
use Rattle.std.specs.Prelude.{◌≡◌, ℕ, List, length}
use Rattle.wal_store.specs.Contents.{Contents}
use Rattle.wal_store.specs.Calls.{Call, no_contents, after_calls}
use Rattle.wal_journal.specs.Record.{records, Accepts}

-- the disk accepts these changes, the closed gate stands behind their records, and the keep holds
-- what they make
pub record IsJournal (now : List ℕ) (tail : ℕ)
    (contents : Contents) (changes : List Call) : Type 0 where
  pub accepts : Accepts now changes
  pub at : length (records changes) ≡ tail
  pub holds : contents ≡ after_calls no_contents changes
