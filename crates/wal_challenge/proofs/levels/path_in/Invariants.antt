-- The path is what was copied, and the path from the place that the loop has come to.
use Rattle.wal_challenge.proofs.Common.{◌≡◌, ◌/◌, ◌<◌, ◌++◌, length, concat, leaves, level_above, path_of}
use Rattle.wal_challenge.proofs.levels.path_in.Given as goal

abbrev pub invariant-climb : goal.invariant-climb
invariant-climb g l =
    let digest = g.H.Hash32.digest in
    let entries = leaves digest (length l.content / l.size) l.size l.content in
    record {
      same : concat (path_of digest entries l.place) ≡ l.path.items ++ concat (path_of digest (level_above digest l.level entries) l.at);
      within : l.at < length (level_above digest l.level entries);
    }
