-- Lists in room that was reserved for them.
use Rattle.std.specs.Prelude.{ℕ, List}
use Rattle.wal_ledger.specs.declared.entry.Entry.{Entry}

-- entries, the link beside each of them, and how many more fit
pub record BookState : Type 0 where
  pub entries : List Entry
  pub links : List ℕ
  pub spare : ℕ
