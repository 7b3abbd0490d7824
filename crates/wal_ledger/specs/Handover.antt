-- The epochs of entries on both sides of a Begin.
use Rattle.std.specs.Prelude.{◌≡◌, ℕ, ◌≤◌, true, false, All}
use Rattle.wal_shape.specs.declared.metadata.BlobId.{BlobId}
use Rattle.wal_ledger.specs.declared.entry.Entry.{Entry}
use Rattle.wal_ledger.specs.Ledger.{Log, phase, reading, writing, names, is_begin}

-- an entry that names an identifier was made in this epoch
abbrev pub IsMadeIn : ℕ → Entry → Type 0
IsMadeIn epoch entry = (id : BlobId) → names id entry.body ≡ true → entry.epoch ≡ epoch

-- an entry was made in this epoch, unless it is a Begin
abbrev pub IsMadeSince : ℕ → Entry → Type 0
IsMadeSince epoch entry = is_begin entry.body ≡ false → entry.epoch ≡ epoch

-- entries before the last Begin are of at most the reading epoch, and entries since then that name
-- an identifier are of the writing epoch
pub record IsDated (log : Log) : Type 0 where
  pub earlier : All (λ entry. entry.epoch ≤ reading log) (phase log).before
  pub later : All (IsMadeIn (writing log)) (phase log).since
