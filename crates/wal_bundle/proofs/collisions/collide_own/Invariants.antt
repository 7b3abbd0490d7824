-- The columns so far are the matrix's own.
use Rattle.wal_bundle.proofs.Common.{◌≡◌, metadata_shown, symbol_bytes, IsColumn, IsOwnColumn, AgreeBelow}
use Rattle.wal_bundle.proofs.collisions.collide_own.Given as goal

abbrev pub invariant-loop-j : goal.invariant-loop-j
invariant-loop-j g l =
    record {
      agree : AgreeBelow l.j (IsColumn g.H.Hash32.digest l.id.0 (metadata_shown l.m) l.payloads) (IsOwnColumn l.matrix.shape.f (symbol_bytes l.matrix) l.matrix.cells);
      f : l.work.f ≡ (metadata_shown l.m).f;
    }
