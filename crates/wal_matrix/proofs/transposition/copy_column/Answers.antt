use Rattle.wal_matrix.proofs.Common.{rules, ◌<◌, ◌^◌, length, arith, sym, ap, ◌∙◌, column_part, take, take_all, ◌*◌, ◌+◌, ◌≡◌, ℕ}
use Rattle.wal_matrix.proofs.Places.{place_fits, number_fits, run_fits}
use Rattle.wal_matrix.proofs.Symbols.{symbol_is, column_more}
use Rattle.std.proofs.lemmas.Slice.{take-put_mid}
use Rattle.wal_matrix.proofs.transposition.copy_column.Goals as goal

pub loop-row-init : goal.loop-row-init
unfolding column_part
loop-row-init c = let none : 0 * c.args.size ≡ 0 = omega arith in ap (λ (k : ℕ). take k c.args.into.now) none

pub overflow_mul-row : goal.overflow_mul-row
overflow_mul-row c =
    let fits : length c.args.from.now < 2 ^ 63 = search rules in
    search (rules, number_fits c.loop-row.row c.args.rows c.args.column c.args.columns c.args.size (omega arith) (omega arith) (omega arith))

pub overflow_add-row : goal.overflow_add-row
overflow_add-row c =
    let fits : length c.args.from.now < 2 ^ 63 = search rules in
    search (rules, number_fits c.loop-row.row c.args.rows c.args.column c.args.columns c.args.size (omega arith) (omega arith) (omega arith))

pub region-symbol-requires : goal.region-symbol-requires
region-symbol-requires c = omega (arith, place_fits c.loop-row.row c.args.rows c.args.column c.args.columns c.args.size (omega arith) (omega arith))

pub loop-row-preserved : goal.loop-row-preserved
loop-row-preserved c =
    let room = run_fits c.loop-row.row c.args.rows c.args.size (omega arith) in
    let own = c.copy_from_slice.ensures.after ∙ c.region-symbol.ensures.run ∙ sym (symbol_is c.args.columns c.args.size c.args.from.now c.loop-row.row c.args.column) in
    let long : length c.copy_from_slice.new.self ≡ c.args.size = ap length c.copy_from_slice.ensures.after ∙ c.region-symbol.ensures.long in
    take-put_mid (c.loop-row.row * c.args.size) _ c.loop-row.into c.copy_from_slice.new.self ((c.loop-row.row + 1) * c.args.size)
    (omega arith) (omega arith)
    ∙ cc (column_more c.args.columns c.args.size c.args.from.now c.loop-row.row c.args.column, c.loop-row.invariant, own)

pub returns : goal.returns
returns c =
    let all : c.loop-row.row ≡ c.args.rows = omega arith in
    cc (take_all (c.loop-row.row * c.args.size) c.loop-row.into (rw all (omega arith)), c.loop-row.invariant, all)
