-- What is left of the path leads from the entry so far to the same entry.
use Rattle.wal_tree.proofs.Common.{◌≡◌, ◌/◌, length, chunks_exact_rest, chunks_exact_size, pieces, folded}
use Rattle.wal_tree.proofs.verify.top_of.Given as goal

abbrev pub invariant-loop-sibling : goal.invariant-loop-sibling
invariant-loop-sibling g l =
    let rest = chunks_exact_rest l.sibling-iterator in
    record {
      same : folded g.H.Hash32.digest l.fn.place l.fn.entry (pieces (length l.path / 32) 32 l.path)
          ≡ folded g.H.Hash32.digest l.place l.entry (pieces (length rest / 32) 32 rest);
      size : chunks_exact_size l.sibling-iterator ≡ 32;
    }
