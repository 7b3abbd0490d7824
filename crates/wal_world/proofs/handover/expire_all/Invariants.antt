use Rattle.wal_world.proofs.Common.{◌≡◌, ◌++◌, map, take, drop, dropped}
use Rattle.wal_world.proofs.handover.expire_all.Given as goal

abbrev pub invariant-loop-place : goal.invariant-loop-place
invariant-loop-place g l = l.shards ≡ map (dropped l.ledger.log) (take l.place l.initial.shards) ++ drop l.place l.initial.shards
