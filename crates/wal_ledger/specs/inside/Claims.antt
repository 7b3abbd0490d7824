-- What an identifier's own entries tell.
use Rattle.std.specs.Prelude.{◌≡◌, ℕ, ◌<◌, ◌≤◌, List}
use Rattle.wal_ledger.specs.declared.entry.Entry.{Entry}
use Rattle.wal_ledger.specs.declared.entry.Kind.{Kind}
use Rattle.wal_ledger.specs.Shards.{count_below, committee_size, quorum_size}
use Rattle.wal_ledger.specs.Ledger.{is_signer_among}

-- how many shards of an epoch's committee are of nodes that signed in it, by the owners of each
-- epoch
abbrev pub count_among : ℕ → (ℕ → List ℕ) → List Entry → Kind → ℕ → ℕ
count_among f owners own kind epoch =
    count_below (committee_size f) (is_signer_among (owners epoch) own kind epoch)

-- the least epoch in which a quorum signed, and how many did
pub record IsLeastQuorum (f : ℕ) (owners : ℕ → List ℕ)
    (own : List Entry) (kind : Kind) (epoch count : ℕ) : Type 0 where
  pub counted : count ≡ count_among f owners own kind epoch
  pub quorum : quorum_size f ≤ count
  pub least : (earlier : ℕ) → earlier < epoch
      → count_among f owners own kind earlier < quorum_size f
