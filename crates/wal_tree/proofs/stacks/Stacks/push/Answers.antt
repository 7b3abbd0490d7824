use Rattle.wal_tree.proofs.Common.{◌<◌, map, subst, sym, on_ok_weaker, StacksState, StandsFor, entry_of, row_stack, column_bytes}
use Rattle.wal_tree.proofs.Columns.{stands_more}
use Rattle.wal_tree.proofs.stacks.Stacks.push.Goals as goal

pub returns-clause-pushed : goal.returns-clause-pushed
returns-clause-pushed g c =
    let digest = g.H.Hash32.digest in
    on_ok_weaker c.carry.result
    (λ is r seen few stands.
    stands_more digest (row_stack r (map column_bytes c.self.inside.levels.items)) (row_stack r (map column_bytes c.carry.new.levels.items)) seen
    (entry_of r c.args.column.items)
    (is r (subst (λ (s : StacksState). r < s.rows) (sym c.self.view_is) few))
    (subst (λ (s : StacksState). StandsFor digest (row_stack r s.levels) seen) (sym c.self.view_is) stands))
    c.carry.ensures.pushed
