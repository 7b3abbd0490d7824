-- Each place that the carry comes to is free or taken.
use Rattle.wal_tree.proofs.Common.{◌≡◌, ◌+◌, ◌<◌, ℕ, List, Some, None, arith, ap, ap₂, get_or, length, length-set, map, set, sym, ◌∙◌, get_or_default, node, entry_of, column_bytes}
use Rattle.wal_tree.proofs.Columns.{column_free, column_taken, level_has, levels_set, lost_any, lost_level}
use Rattle.wal_tree.proofs.stacks.carry.Goals as goal

pub join_columns-requires-clause-left : goal.join_columns-requires-clause-left
join_columns-requires-clause-left g c =
    let l = c.loop-level in
    let within : l.level < length l.levels.items = omega (arith, c.loop-level-test.true, l.auto.level-end, l.invariant.long, c.len-level-end.ensures) in
    let taken : get_or l.levels.items l.level None ≡ Some c.in-Some.left =
    get_or_default l.levels.items l.level None _ within ∙ sym c.index_mut.ensures.value ∙ sym c.take.ensures.value ∙ c.in-Some.is in
    ap length c.deref.ensures.value ∙ level_has c.args.rows l.level l.levels.items c.in-Some.left l.invariant.levels within taken

pub returns-in_err-entry-in-Some-clause-levels : goal.returns-in_err-entry-in-Some-clause-levels
returns-in_err-entry-in-Some-clause-levels g c =
    let l = c.loop-level in
    levels_set c.args.rows l.level l.levels.items c.take.new.self (rw c.take.ensures.after tt) l.invariant.levels

pub returns-in_err-entry-in-Some-clause-lost : goal.returns-in_err-entry-in-Some-clause-lost
returns-in_err-entry-in-Some-clause-lost g c =
    let l = c.loop-level in
    lost_any c.from_residual.result (map column_bytes c.args.levels.now.items) _ (l.level + 1)
    (lost_level c.args.levels.now.items l.levels.items l.level c.take.new.self c.take.ensures.after l.invariant.lost)

pub returns-in-None-clause-levels : goal.returns-in-None-clause-levels
returns-in-None-clause-levels g c =
    let l = c.loop-level in
    levels_set c.args.rows l.level (set l.levels.items l.level c.take.new.self) (Some l.entry) l.invariant.entry
    (levels_set c.args.rows l.level l.levels.items c.take.new.self (rw c.take.ensures.after tt) l.invariant.levels)

pub returns-in-None-clause-pushed : goal.returns-in-None-clause-pushed
returns-in-None-clause-pushed g c =
    λ r few.
    let l = c.loop-level in
    let within : l.level < length l.levels.items = omega (arith, c.loop-level-test.true, l.auto.level-end, l.invariant.long, c.len-level-end.ensures) in
    let free : get_or l.levels.items l.level None ≡ None =
    get_or_default l.levels.items l.level None _ within ∙ sym c.index_mut.ensures.value ∙ sym c.take.ensures.value ∙ c.in-None.is in
    column_free g.H.Hash32.digest l.levels.items _ l.level r l.entry within free
    (ap (λ w. set (set l.levels.items l.level w) l.level (Some l.entry)) c.take.ensures.after)
    ∙ sym (l.invariant.same r few)

pub loop-level-preserved : goal.loop-level-preserved
loop-level-preserved g c =
    let l = c.loop-level in
    let left = c.in-Some.left in
    let above = c.in_ok-entry-in-Some.entry in
    let within : l.level < length l.levels.items = omega (arith, c.loop-level-test.true, l.auto.level-end, l.invariant.long, c.len-level-end.ensures) in
    let taken : get_or l.levels.items l.level None ≡ Some left =
    get_or_default l.levels.items l.level None _ within ∙ sym c.index_mut.ensures.value ∙ sym c.take.ensures.value ∙ c.in-Some.is in
    record {
      same = λ r few.
          l.invariant.same r few
          ∙ column_taken g.H.Hash32.digest l.levels.items _ l.level r left l.entry.items above.items within taken
          (ap (set l.levels.items l.level) c.take.ensures.after)
          (c.in_ok-entry-in-Some.ensures.nodes r few
          ∙ ap₂ (λ (a b : List ℕ). node g.H.Hash32.digest (entry_of r a) (entry_of r b)) c.deref.ensures.value c.deref-in-Some.ensures.value);
      entry = c.in_ok-entry-in-Some.ensures.long;
      levels = levels_set c.args.rows l.level l.levels.items c.take.new.self (rw c.take.ensures.after tt) l.invariant.levels;
      lost = lost_level c.args.levels.now.items l.levels.items l.level c.take.new.self c.take.ensures.after l.invariant.lost;
      long = length-set l.levels.items l.level c.take.new.self ∙ l.invariant.long;
    }
