-- No payload so far carries a held sliver of the axis and index.
use Rattle.wal_reader.proofs.Common.{◌≡◌, take, metadata_shown, NoHeldSliver}
use Rattle.wal_reader.proofs.slivers.sliver_in.Given as goal

abbrev pub invariant-loop-payload : goal.invariant-loop-payload
invariant-loop-payload g l =
    record {
      none : NoHeldSliver g.H.Hash32.digest l.id.0 (metadata_shown l.m) l.axis l.index (take l.payload-index l.payload-items);
      f : l.work.f ≡ (metadata_shown l.m).f;
    }
