use Rattle.wal_run.proofs.Common.{length}
use Rattle.wal_run.proofs.ListingLaws.{IsListedTo, to_come}
use Rattle.wal_run.proofs.unpack.contents_lines.Given as goal

-- the text so far has the lines of the identifiers up to the last one
abbrev pub invariant-loop-id : goal.invariant-loop-id
invariant-loop-id g l = IsListedTo (g.K.Keep.contents l.keep) l.last l.text.items

abbrev pub decreases-loop-id : goal.decreases-loop-id
decreases-loop-id g l = length (to_come (g.K.Keep.contents l.keep) l.last)
