-- The columns of the index and of the members so far.
use Rattle.wal_bundle.proofs.Common.{◌≡◌, ◌++◌, take, flat_map, whole_columns}
use Rattle.wal_bundle.proofs.laying.columns_text.Given as goal

abbrev pub invariant-loop-member : goal.invariant-loop-member
invariant-loop-member l = l.columns.items ≡ whole_columns l.size l.index ++ flat_map (whole_columns l.size) (take l.member-index l.members)
