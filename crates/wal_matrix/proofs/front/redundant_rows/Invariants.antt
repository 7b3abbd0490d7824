use Rattle.wal_matrix.proofs.Common.{◌≡◌, ◌*◌, length}
use Rattle.wal_matrix.proofs.FrontLaws.{KeptRows}
use Rattle.wal_matrix.proofs.front.redundant_rows.Given as goal

abbrev pub invariant-loop-index : goal.invariant-loop-index
invariant-loop-index l = record {
  long : length l.kept.items ≡ l.index * (l.f * l.size);
  kept : KeptRows l.f l.size l.bytes l.index l.kept.items;
}
