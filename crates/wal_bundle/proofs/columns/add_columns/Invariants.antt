-- The columns so far.
use Rattle.wal_bundle.proofs.Common.{◌≡◌, metadata_shown, symbol_size, column_bytes, AreColumns, IsColumn}
use Rattle.wal_bundle.proofs.columns.add_columns.Given as goal

abbrev pub invariant-loop-place : goal.invariant-loop-place
invariant-loop-place g l =
    record {
      columns : AreColumns (IsColumn g.H.Hash32.digest l.id.0 (metadata_shown l.m) l.payloads) (column_bytes (metadata_shown l.m).f (symbol_size (metadata_shown l.m).f (metadata_shown l.m).length)) l.start l.place l.columns.items;
      f : l.work.f ≡ (metadata_shown l.m).f;
    }
