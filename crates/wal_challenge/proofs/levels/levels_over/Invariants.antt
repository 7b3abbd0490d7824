-- The levels so far, and the entries of the one above them.
use Rattle.wal_challenge.proofs.Common.{◌≡◌, ◌*◌, ◌/◌, ◌≤◌, length, leaves, pieces, level_above, FirstLevels}
use Rattle.wal_challenge.proofs.levels.levels_over.Given as goal

abbrev pub invariant-rise : goal.invariant-rise
invariant-rise g l =
    let digest = g.H.Hash32.digest in
    let entries = leaves digest (length l.content / l.size) l.size l.content in
    record {
      first : FirstLevels digest entries l.levels.items;
      here : pieces (length l.level.items / 32) 32 l.level.items ≡ level_above digest (length l.levels.items) entries;
      whole : length l.level.items ≡ 32 * (length l.level.items / 32);
      few : length l.level.items / 32 ≤ 1000;
    }

abbrev pub decreases-rise : goal.decreases-rise
decreases-rise g l = length l.level.items
