-- The stack stands for the digests so far, and it and the digests still to come have the root of them all.
use Rattle.wal_tree.proofs.Common.{◌≡◌, ◌+◌, ◌/◌, ◌≤◌, length, chunks_exact_rest, chunks_exact_size, pieces, root_of, climb, weight}
use Rattle.wal_tree.proofs.pass.root_by_stack.Given as goal

abbrev pub invariant-loop-piece : goal.invariant-loop-piece
invariant-loop-piece g l =
    let digest = g.H.Hash32.digest in
    let rest = chunks_exact_rest l.piece-iterator in
    record {
      same : root_of digest (pieces (length l.digests / 32) 32 l.digests) ≡ climb digest l.stack (pieces (length rest / 32) 32 rest);
      size : chunks_exact_size l.piece-iterator ≡ 32;
      seen : weight l.stack + length rest / 32 ≡ length l.digests / 32;
      within : length l.stack ≤ 10;
    }
