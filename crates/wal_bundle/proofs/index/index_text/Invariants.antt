-- The entries so far, and the first column of the next member.
use Rattle.wal_bundle.proofs.Common.{◌≡◌, ◌++◌, length, w16, number_text, entries_text, first_column}
use Rattle.wal_bundle.proofs.index.index_text.Given as goal

abbrev pub invariant-loop-length : goal.invariant-loop-length
invariant-loop-length l =
    record {
      text : l.text.items ≡ number_text w16 (length l.lengths) ++ entries_text l.size l.lengths l.length-index;
      first : l.first ≡ first_column l.size l.lengths l.length-index;
    }
