use Rattle.wal_store.proofs.Common.{◌≡◌, ◌+◌, ◌≤◌, filter, length, is_past}
use Rattle.std.specs.FinMap as map
use Rattle.wal_store.proofs.RetainLaws.{Passed}
use Rattle.wal_store.proofs.choice.retain.Given as goal

abbrev pub invariant-loop : goal.invariant-loop
invariant-loop g l = record {
  passed : Passed (g.C.Choice.chooses l.choice) (g.K.Keep.contents l.initial.keep) (g.K.Keep.contents l.keep) l.last;
  few : length (filter (is_past l.last) (map.keys (g.K.Keep.contents l.keep))) + l.counter ≤ l.end;
  limit : g.K.Keep.limit l.keep ≡ g.K.Keep.limit l.initial.keep;
}
