use Rattle.wal_tree.proofs.Common.{map, arith, inl, ◌∙◌, row_stack, column_bytes}
use Rattle.wal_tree.proofs.Columns.{climb_nothing, climb_step, row_held, row_long}
use Rattle.wal_tree.proofs.stacks.fold_columns.Goals as goal

pub loop-level-preserved : goal.loop-level-preserved
loop-level-preserved g c =
    let levels = c.args.levels.now in
    let l = c.loop-level in
    record {
      same = l.invariant.same
          ∙ climb_step g.H.Hash32.digest (row_stack c.args.row (map column_bytes levels)) l.level c.entry_at-entry.result l.pending c.above-pending.result
          (omega (arith, row_long c.args.row levels, c.loop-level-test.true, c.if-level-height.false)) (c.entry_at-entry.ensures ∙ row_held c.args.row l.level levels) c.above-pending.ensures;
      before = inl (omega (arith, c.loop-level-test.true, c.if-level-height.false));
    }

pub returns : goal.returns
returns g c = climb_nothing g.H.Hash32.digest c.args.row c.args.levels.now (grind arith)
