-- The path is what was found so far and the path from the place that the loop has come to.
use Rattle.wal_tree.proofs.Common.{◌≡◌, ◌+◌, ◌*◌, ◌/◌, ◌<◌, ◌≤◌, ◌++◌, length, concat, leaves, level_above, height, path_of}
use Rattle.wal_tree.proofs.siblings.path.Given as goal

abbrev pub invariant-loop-width : goal.invariant-loop-width
invariant-loop-width g l =
    let digest = g.H.Hash32.digest in
    let count = length l.content / l.size in
    let entries = leaves digest count l.size l.content in
    record {
      same : concat (path_of digest entries l.place)
          ≡ l.out ++ concat (path_of digest (level_above digest l.level entries) l.at);
      wide : length (level_above digest l.level entries) ≡ l.width;
      long : length l.out ≡ 32 * l.level;
      high : l.level + height l.width ≡ height count;
      few : l.width ≤ 1000;
      place : l.at < l.width;
    }

abbrev pub decreases-loop-width : goal.decreases-loop-width
decreases-loop-width g l = l.width
