-- The result of a node's claim about a blob, an acknowledgement or an attestation.
use Rattle.std.specs.Prelude.{◌≡◌, ℕ, ◌<◌, ◌≤◌, true, false}
use Rattle.wal_shape.specs.declared.metadata.BlobId.{BlobId}
use Rattle.wal_ledger.specs.declared.entry.Kind.{Kind}
use Rattle.wal_ledger.specs.Shards.{quorum_size}
use Rattle.wal_ledger.specs.Ledger.{is_live, until_of, writing}
use Rattle.wal_ledger.specs.Answers.{IsOpen}
use Rattle.wal_protocol.specs.declared.said.Said.{Said}
use Rattle.wal_protocol.specs.declared.said.Said.TheVariants.{Unregistered, Expires, Declined}
use Rattle.wal_protocol.specs.declared.said.Said.TheVariants.{Already, Counted, Quorum}
use Rattle.wal_protocol.specs.State.{World}
use Rattle.wal_protocol.specs.Step.{Declines, SaidBefore, ClaimStep}

abbrev pub Says : Kind → World → ℕ → BlobId → Said → World → Type 0
Says kind old shard id Unregistered new = (is_live old.log id ≡ false) × (new ≡ old)
Says kind old shard id Expires new =
    (is_live old.log id ≡ true) × (until_of old.log id ≤ writing old.log) × (new ≡ old)
Says kind old shard id Declined new = IsOpen old.log id × Declines old kind shard id × (new ≡ old)
Says kind old shard id Already new = SaidBefore old kind shard id × (new ≡ old)
Says kind old shard id (Counted count) new =
    ClaimStep old kind shard id count new × (count < quorum_size old.log.f)
Says kind old shard id (Quorum count) new =
    ClaimStep old kind shard id count new × (quorum_size old.log.f ≤ count)
