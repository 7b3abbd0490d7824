-- The columns so far are the same wherever both are there.
use Rattle.wal_bundle.proofs.Common.{◌≡◌, metadata_shown, IsColumn, AgreeBelow}
use Rattle.wal_bundle.proofs.collisions.collide_columns.Given as goal

abbrev pub invariant-loop-j : goal.invariant-loop-j
invariant-loop-j g l =
    record {
      agree : AgreeBelow l.j (IsColumn g.H.Hash32.digest l.id.0 (metadata_shown l.m) l.a) (IsColumn g.H.Hash32.digest l.id.0 (metadata_shown l.m) l.b);
      f : l.work.f ≡ (metadata_shown l.m).f;
    }
