-- The columns of the members so far.
use Rattle.wal_bundle.proofs.Common.{◌≡◌, ◌*◌, ◌^◌, ◌≤◌, take, member_columns}
use Rattle.wal_bundle.proofs.layout.member_columns.Given as goal

abbrev pub invariant-loop-length : goal.invariant-loop-length
invariant-loop-length l =
    record {
      value : l.columns ≡ member_columns l.size (take l.length-index l.lengths);
      most : l.columns ≤ 2 ^ 32 * l.length-index;
    }
