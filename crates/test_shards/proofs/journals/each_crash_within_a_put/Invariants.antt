use Rattle.std.proofs.Common.{◌≤◌}
use Rattle.test_shards.proofs.journals.each_crash_within_a_put.Given as goal

-- no more were counted than were tried
abbrev pub invariant-loop-words : goal.invariant-loop-words
invariant-loop-words g l = l.before ≤ l.words
