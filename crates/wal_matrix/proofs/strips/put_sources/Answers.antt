use Rattle.wal_matrix.proofs.Common.{rules, ◌≡◌, ◌+◌, ◌*◌, ◌<◌, ◌≤◌, length, arith, ◌∙◌, column_count, drop, length-take, ◌-◌}
use Rattle.wal_matrix.proofs.Places.{run_fits}
use Rattle.wal_matrix.proofs.FrontLaws.{source_place}
use Rattle.wal_matrix.proofs.StripLaws.{sources_more, part_long}
use Rattle.wal_matrix.proofs.strips.put_sources.Goals as goal

pub put_bytes-requires : goal.put_bytes-requires
put_bytes-requires c =
    let column = c.loop-column.column in
    let below : column < column_count c.args.faults = omega (arith, c.loop-column-test.true, c.loop-column.auto.column-end) in
    record {
      place = omega (
        arith,
        source_place c.args.faults c.args.cut.size c.args.row column c.requires.row below,
        c.requires.within,
        c.requires.fits,
        length-take ((column + 1) * c.args.cut.long - column * c.args.cut.long) (drop (column * c.args.cut.long) c.loop-column.cells),
      );
    }

pub loop-column-preserved : goal.loop-column-preserved
loop-column-preserved c =
    let column = c.loop-column.column in
    let long = c.args.cut.long in
    let old = c.loop-column.cells in
    let part = c.put_bytes.new.out in
    let below : column < column_count c.args.faults = omega (arith, c.loop-column-test.true, c.loop-column.auto.column-end) in
    let room : column * long + long ≤ length old =
    omega (arith, run_fits column (column_count c.args.faults) long below, c.loop-column.invariant.long, c.requires.room) in
    let whole = part_long column long old room in
    let size : length part ≡ long = c.put_bytes.ensures.long ∙ whole in
    record {
      long = (search rules);
      sources = sources_more c.args.faults c.args.cut.size c.args.row c.args.cut.from long column _ c.args.bytes.now old part room size
          (λ k hk. c.put_bytes.ensures.bytes k (omega (arith, whole))) c.loop-column.invariant.sources;
    }
