-- The openings so far hold, and their symbols are copied.
use Rattle.wal_evidence.proofs.Common.{◌≡◌, ◌*◌, take, All, metadata_shown, proof_shown, HoldsOpening, symbols_of}
use Rattle.wal_evidence.proofs.proof.copy_symbols.Given as goal

abbrev pub invariant-loop-place : goal.invariant-loop-place
invariant-loop-place g l =
    let p = proof_shown l.p in
    record {
      held : All (HoldsOpening g.H.Hash32.digest (metadata_shown l.m) p.axis p.index) (take l.place p.openings);
      copied : take (l.place * l.size) l.symbols ≡ symbols_of (take l.place p.openings);
    }
