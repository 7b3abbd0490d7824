use Rattle.wal_matrix.proofs.Common.{rules, ◌≡◌, ℕ, ◌+◌, ◌*◌, length, vec_len, arith, ap, ◌∙◌}
use Rattle.wal_matrix.proofs.RowLaws.{rows_more}
use Rattle.wal_matrix.proofs.rows.first_rows.Goals as goal

pub loop-row-preserved : goal.loop-row-preserved
loop-row-preserved c =
    let f = c.args.f in
    let size = c.args.size in
    let row = c.loop-row.row in
    let old = c.loop-row.cells in
    let new = c.add_row.new.cells in
    let len : length new.items ≡ vec_len new = search rules in
    record {
      long = c.in_ok-add_row.ensures.long ∙ ap (λ (n : ℕ). n + (3 * f + 1) * size) c.loop-row.invariant.long ∙ omega arith;
      rows = rows_more (2 * f + 1) (3 * f + 1) size row (vec_len old) c.args.bytes.now old.items new.items c.loop-row.invariant.long
          c.in_ok-add_row.ensures.kept (len ∙ c.in_ok-add_row.ensures.long) c.loop-row.invariant.rows c.in_ok-add_row.ensures.row;
    }
