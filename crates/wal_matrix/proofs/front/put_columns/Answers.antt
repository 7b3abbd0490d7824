use Rattle.wal_matrix.proofs.Common.{rules, ◌≡◌, ◌+◌, ◌*◌, ◌<◌, ◌≤◌, ℕ, length, arith, subst, div_below, mod_below, row_count, ArePut}
use Rattle.wal_matrix.proofs.FrontLaws.{put_more}
use Rattle.wal_matrix.proofs.Places.{run_fits}
use Rattle.wal_matrix.proofs.front.put_columns.Goals as goal

pub put_symbol-requires-clause-row : goal.put_symbol-requires-clause-row
put_symbol-requires-clause-row c = div_below c.loop-place.place c.args.count (row_count c.args.faults) c.requires.some (omega (arith, c.loop-place-test.true, c.loop-place.auto.place-end))

pub put_symbol-requires-clause-column : goal.put_symbol-requires-clause-column
put_symbol-requires-clause-column c = omega (arith, mod_below c.loop-place.place c.args.count c.requires.some, c.requires.columns)

pub loop-place-preserved : goal.loop-place-preserved
loop-place-preserved c =
    let place = c.loop-place.place in
    let old = c.loop-place.block in
    let part = c.put_symbol.new.out in
    let below : place < row_count c.args.faults * c.args.count = omega (arith, c.loop-place-test.true, c.loop-place.auto.place-end) in
    let room : place * c.args.size + c.args.size ≤ length old =
    omega (arith, run_fits place (row_count c.args.faults * c.args.count) c.args.size below, c.loop-place.invariant.long, c.requires.room) in
    record {
      long = (search rules);
      put = put_more c.args.faults c.args.size c.args.first c.args.count place _ c.args.bytes.now old part c.requires.some room c.put_symbol.ensures.long
          c.put_symbol.ensures.symbol c.loop-place.invariant.put;
    }

pub returns-clause-put : goal.returns-clause-put
returns-clause-put c =
    let all : c.loop-place.place ≡ row_count c.args.faults * c.args.count = omega (arith, c.loop-place-test.false, c.loop-place.auto.place-end) in
    subst (λ (z : ℕ). ArePut c.args.faults c.args.size c.args.bytes.now c.args.first c.args.count z c.loop-place.block) all c.loop-place.invariant.put
