-- What is taken from the openings so far, and the flags of its crosses.
use Rattle.wal_recover.proofs.Common.{take, metadata_shown, crosses_of, Marks, Takes}
use Rattle.wal_recover.proofs.taking.take_openings.Given as goal

abbrev pub invariant-loop-opening : goal.invariant-loop-opening
invariant-loop-opening g l =
    record {
      marks : Marks l.collected.seen (crosses_of l.collected.taken.items);
      takes : Takes g.H.Hash32.digest (metadata_shown l.m) l.axis l.index (take l.opening-index l.openings) l.most l.collected.taken.items;
    }
