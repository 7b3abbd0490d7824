-- The parts so far are held.
use Rattle.wal_reader.proofs.Common.{◌≡◌, ℕ, List, drop, metadata_shown, Sifts}
use Rattle.wal_reader.proofs.SiftLaws.{Reaches}
use Rattle.wal_reader.proofs.known.known_from.Given as goal

abbrev pub invariant-loop-part : goal.invariant-loop-part
invariant-loop-part g l =
    record {
      metadata : l.known.metadata ≡ metadata_shown l.m;
      f : l.known.work.f ≡ l.known.metadata.f;
      parts : (payloads : List (List ℕ)) → Sifts l.id.0 l.parts payloads → Reaches g.H.Hash32.digest l.id.0 l.known (drop l.part-index l.parts) payloads;
    }
