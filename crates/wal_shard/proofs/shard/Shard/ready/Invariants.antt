use Rattle.wal_shard.proofs.Common.{◌≡◌, ℕ, ◌<◌, true, Some, slice_get, BlobId, parts_at, MustHold, live_ids, settled}
use Rattle.wal_shard.proofs.shard.Shard.ready.Given as goal

abbrev pub invariant-loop-place : goal.invariant-loop-place
invariant-loop-place g l =
    (id : BlobId) (k : ℕ) → k < l.place → slice_get (live_ids l.ledger.log) k ≡ Some id → MustHold l.ledger.log id → settled (parts_at l.self.contents id) ≡ true
