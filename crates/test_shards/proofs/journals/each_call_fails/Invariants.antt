use Rattle.std.proofs.Common.{◌≤◌}
use Rattle.test_shards.proofs.journals.each_call_fails.Given as goal

-- no more were counted than were tried
abbrev pub invariant-loop-fails : goal.invariant-loop-fails
invariant-loop-fails g l = l.right ≤ l.fails
