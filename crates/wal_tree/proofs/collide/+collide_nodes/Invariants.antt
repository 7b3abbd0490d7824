-- Each call is one level higher.
use Rattle.wal_tree.proofs.Common.{length}
use Rattle.wal_tree.proofs.collide.+collide_nodes.Given as goal

abbrev pub decreases-collide_nodes : goal.decreases-collide_nodes
decreases-collide_nodes g l = length l.path_a.now
