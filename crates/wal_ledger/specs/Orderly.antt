-- What a ledger keeps over its changes of epoch.
use Rattle.std.specs.Prelude.{◌≡◌, ◌≢◌, ℕ, ◌+◌, ◌≤◌, true, cond, length, All}
use Rattle.wal_shape.specs.declared.metadata.BlobId.{BlobId}
use Rattle.wal_ledger.specs.declared.entry.Kind.{Kind}
use Rattle.wal_ledger.specs.Ledger.{Log, phase, writing, is_moving, cut, own_entries, is_live}
use Rattle.wal_ledger.specs.Ledger.{signers}

-- changes of the epoch come one after the other, each with owners; no entry is of a later epoch
-- than the writing one; and while the epoch changes, what is live and was signed in an earlier
-- epoch was live and signed so before the last Begin, and what was live then still is
pub record IsOrderly (log : Log) : Type 0 where
  pub turns : length (phase log).brought ≡ (phase log).finishes + cond (is_moving log) 1 0
  pub epochs : (id : BlobId) → All (λ entry. entry.epoch ≤ writing log) (own_entries log id)
  pub old : is_moving log ≡ true → (id : BlobId) (kind : Kind) (epoch shard : ℕ)
      → is_live log id ≡ true
      → signers log id kind epoch shard ≡ true → epoch ≢ writing log
      → (is_live (cut log) id ≡ true) × (signers (cut log) id kind epoch shard ≡ true)
  pub lives : is_moving log ≡ true → (id : BlobId) → is_live (cut log) id ≡ true
      → is_live log id ≡ true
