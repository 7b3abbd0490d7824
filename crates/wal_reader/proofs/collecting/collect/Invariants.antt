-- The slivers of the payloads so far are collected.
use Rattle.wal_reader.proofs.Common.{◌≡◌, take, metadata_shown, Collects}
use Rattle.wal_reader.proofs.collecting.collect.Given as goal

abbrev pub invariant-loop-payload : goal.invariant-loop-payload
invariant-loop-payload g l =
    record {
      collects : Collects g.H.Hash32.digest l.id.0 (metadata_shown l.m) (take l.payload-index l.payloads) l.collected.indices.items l.collected.joined.items;
      f : l.work.f ≡ (metadata_shown l.m).f;
    }
