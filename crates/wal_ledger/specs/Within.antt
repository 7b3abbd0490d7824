-- Epochs of entries.
use Rattle.std.specs.Prelude.{ℕ, ◌≤◌}
use Rattle.wal_ledger.specs.declared.entry.Entry.{Entry}

-- the entry was made in one of these epochs
pub record IsWithin (first last : ℕ) (entry : Entry) : Type 0 where
  pub low : first ≤ entry.epoch
  pub high : entry.epoch ≤ last
