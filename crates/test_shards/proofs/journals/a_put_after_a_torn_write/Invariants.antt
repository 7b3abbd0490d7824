use Rattle.std.proofs.Common.{◌≤◌}
use Rattle.test_shards.proofs.journals.a_put_after_a_torn_write.Given as goal

-- no more were counted than were tried
abbrev pub invariant-loop-left : goal.invariant-loop-left
invariant-loop-left g l = l.held ≤ l.left
