use Rattle.wal_shard.proofs.Common.{◌≡◌, ◌≤◌, ◌-◌, [], length, take, unwrap_or, part_at}
use Rattle.wal_shard.proofs.shard.Shard.holds_pieces.Given as goal

abbrev pub invariant-pieces : goal.invariant-pieces
invariant-pieces g l = record {
  within : l.done ≤ length l.bytes;
  same : take l.done (unwrap_or (part_at l.self.contents l.id l.part) []) ≡ take l.done l.bytes;
}

abbrev pub decreases-pieces : goal.decreases-pieces
decreases-pieces g l = length l.bytes - l.done
