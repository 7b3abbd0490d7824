use Rattle.wal_matrix.proofs.Common.{◌≡◌, ◌+◌, ◌*◌, ◌<◌, ◌≤◌, ◌^◌, length, rules, arith, ◌∙◌, below_more}
use Rattle.wal_matrix.proofs.Runs.{region-put_other, region-put_same}
use Rattle.wal_matrix.proofs.Places.{run_fits, product_fits}
use Rattle.wal_matrix.proofs.Symbols.{turned}
use Rattle.wal_matrix.proofs.transposition.transpose.Goals as goal

pub overflow_mul-run : goal.overflow_mul-run
overflow_mul-run c =
    let fits : length c.args.into.now < 2 ^ 63 = search rules in
    search (rules, product_fits c.args.columns c.args.rows c.args.size (omega arith))

pub loop-column-preserved : goal.loop-column-preserved
loop-column-preserved c =
    let run = c.args.rows * c.args.size in
    let column = c.loop-column.column in
    let old = c.loop-column.into in
    let own = c.copy_column.new.into in
    let start : column * run ≡ run * column = omega arith in
    let inside : run * column + run ≤ length old = omega (arith, run_fits column c.args.columns run (omega arith)) in
    below_more _ _
    (λ i h. region-put_other run i column (column * run) _ old own h start (omega arith) ∙ c.loop-column.invariant i h)
    (region-put_same run column (column * run) _ old own start inside (search rules) ∙ c.copy_column.ensures)

pub returns : goal.returns
returns c = turned c.args.rows c.args.columns c.args.size c.args.from.now c.loop-column.into c.requires.block (λ i h. c.loop-column.invariant i (omega arith))
