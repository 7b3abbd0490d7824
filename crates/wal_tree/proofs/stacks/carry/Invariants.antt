-- Below `level` the places are free; the column is still to be pushed onto the rest.
use Rattle.wal_tree.proofs.Common.{◌≡◌, ◌*◌, ◌<◌, ◌++◌, ℕ, All, length, map, take, drop, pushed, emptied, entry_of, row_stack, HasRows, column_bytes}
use Rattle.wal_tree.proofs.stacks.carry.Given as goal

abbrev pub invariant-loop-level : goal.invariant-loop-level
invariant-loop-level g l =
    let columns = map column_bytes l.levels.items in
    record {
      same : (r : ℕ) → r < l.rows
          → pushed g.H.Hash32.digest (row_stack r (map column_bytes l.fn.levels.items)) (entry_of r l.fn.column.items)
          ≡ take l.level (row_stack r columns) ++ pushed g.H.Hash32.digest (drop l.level (row_stack r columns)) (entry_of r l.entry.items);
      entry : length l.entry.items ≡ l.rows * 32;
      levels : All (HasRows l.rows) columns;
      lost : columns ≡ emptied l.level (map column_bytes l.fn.levels.items);
      long : length l.levels.items ≡ length l.fn.levels.items;
    }
