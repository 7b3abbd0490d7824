-- Each call looks at the level below.
use Rattle.wal_tree.proofs.siblings.+entry.Given as goal

abbrev pub decreases-entry : goal.decreases-entry
decreases-entry g l = l.level
