-- Each place that the carry comes to is free or taken.
use Rattle.wal_tree.proofs.Common.{◌+◌, arith, length-set, sym, ◌∙◌, take-set_at}
use Rattle.std.specs.Prelude.{None, Some}
use Rattle.wal_tree.proofs.Columns.{carry_free, carry_out, carry_room, carry_taken}
use Rattle.wal_tree.proofs.stack.carry.Goals as goal

pub returns-in-None-clause-pushed : goal.returns-in-None-clause-pushed
returns-in-None-clause-pushed g c =
    let l = c.loop-level in
    let free = carry_free g.H.Hash32.digest l.levels c.args.height l.level l.entry (omega arith) (omega arith) (cc) in
    free ∙ sym l.invariant.same

pub loop-level-preserved : goal.loop-level-preserved
loop-level-preserved g c =
    let l = c.loop-level in
    let taken = carry_taken g.H.Hash32.digest l.levels c.args.height l.level l.entry (omega arith) (omega arith) c.in-Some.left c.in-Some.is in
    record {
      same = l.invariant.same ∙ rw (← c.join-entry.ensures) at taken;
      long = length-set l.levels l.level None ∙ l.invariant.long;
    }

pub bounds-levels-height : goal.bounds-levels-height
bounds-levels-height g c =
    let l = c.loop-level in
    carry_room g.H.Hash32.digest l.levels c.args.height l.level l.entry (omega arith) _ 10 (omega arith) c.requires.room l.invariant.same

pub returns-clause-fits : goal.returns-clause-fits
returns-clause-fits g c =
    let l = c.loop-level in
    omega (arith, carry_room g.H.Hash32.digest l.levels c.args.height l.level l.entry (omega arith) _ 10 (omega arith) c.requires.room l.invariant.same)

pub returns-clause-pushed : goal.returns-clause-pushed
returns-clause-pushed g c =
    let l = c.loop-level in
    let room = carry_room g.H.Hash32.digest l.levels c.args.height l.level l.entry (omega arith) _ 10 (omega arith) c.requires.room l.invariant.same in
    take-set_at l.levels c.args.height (c.args.height + 1) (Some l.entry) (omega arith) (omega arith)
    ∙ sym (l.invariant.same ∙ carry_out g.H.Hash32.digest l.levels c.args.height l.level l.entry (omega arith) (omega arith))
