-- Row by row, and what the columns of the block then are.
use Rattle.wal_matrix.proofs.Common.{rules, ◌≡◌, ◌*◌, ◌≤◌, length, vec_len, ap, ◌∙◌, arith, row_count, block_of_columns, column_count, row_of_columns}
use Rattle.wal_matrix.proofs.ColumnLaws.{block_column, block_long, block_rest, block_symbol, rows_fit}
use Rattle.wal_matrix.proofs.Runs.{pieces_more}
use Rattle.wal_matrix.proofs.columns.block_of_columns.Goals as goal

pub add_row_of_columns-requires-clause-fits : goal.add_row_of_columns-requires-clause-fits
add_row_of_columns-requires-clause-fits c =
    let len : vec_len c.loop-row.block ≡ length c.loop-row.block.items = search rules in
    let room : c.args.given * row_count c.args.f * c.args.size ≤ length c.args.columns.now = omega (arith, c.requires.columns) in
    omega (
      arith,
      len,
      c.requires.fits,
      rows_fit c.args.f c.args.size c.args.columns.now c.args.given c.requires.fewer room c.loop-row.block.items c.loop-row.row (omega arith) c.loop-row.invariant,
    )

pub loop-row-preserved : goal.loop-row-preserved
loop-row-preserved c =
    let row = row_of_columns (row_count c.args.f) (column_count c.args.f) c.args.size c.args.columns.now c.args.given in
    cc (c.in_ok-add_row_of_columns.ensures, c.loop-row.invariant, pieces_more row c.loop-row.row)

pub returns-clause-block : goal.returns-clause-block
unfolding block_of_columns
returns-clause-block c = let all : c.loop-row.row ≡ row_count c.args.f = omega arith in cc (c.loop-row.invariant, all)

pub returns-clause-long : goal.returns-clause-long
returns-clause-long c =
    let len : vec_len c.loop-row.block ≡ length c.loop-row.block.items = search rules in
    len ∙ ap length (returns-clause-block c)
    ∙ block_long c.args.f c.args.size c.args.columns.now c.args.given c.requires.fewer
    (omega (arith, c.requires.columns))

pub returns-clause-symbols : goal.returns-clause-symbols
returns-clause-symbols c =
    rw (returns-clause-block c)
    (block_symbol c.args.f c.args.size c.args.columns.now c.args.given c.requires.fewer
    (omega (arith, c.requires.columns)))

pub returns-clause-columns : goal.returns-clause-columns
returns-clause-columns c =
    rw (returns-clause-block c) (block_column c.args.f c.args.size c.args.columns.now c.args.given c.requires.fewer
    c.requires.columns)

pub returns-clause-rest : goal.returns-clause-rest
returns-clause-rest c =
    rw (returns-clause-block c) (block_rest c.args.f c.args.size c.args.columns.now c.args.given c.requires.fewer
    c.requires.columns)
