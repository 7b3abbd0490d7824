use Rattle.wal_matrix.proofs.Common.{rules, ◌≡◌, ◌+◌, ◌*◌, ◌<◌, ◌≤◌, length, refl, arith, ◌∙◌, shard_count, row_count}
use Rattle.wal_matrix.proofs.Places.{run_fits}
use Rattle.wal_matrix.proofs.StripLaws.{row_strips_more, part_long}
use Rattle.wal_matrix.proofs.strips.fill_rows.Goals as goal

pub loop-row-preserved : goal.loop-row-preserved
loop-row-preserved c =
    let f = c.args.faults in
    let row = c.loop-row.row in
    let old = c.loop-row.strip in
    let part = c.fill_row.new.cells in
    let run = shard_count f * c.args.cut.long in
    let below : row < row_count f = omega (arith, c.loop-row-test.true, c.loop-row.auto.row-end) in
    let inside : row < shard_count f = omega arith in
    let room : row * run + run ≤ length old = omega (arith, run_fits row (shard_count f) run inside, c.loop-row.invariant.long, c.requires.room) in
    let size : length part ≡ run = c.fill_row.ensures.long ∙ part_long row run old room in
    record {
      long = (search rules);
      rows = row_strips_more f c.args.cut.size c.args.cut.from c.args.cut.long row (row * run) _ c.args.bytes.now old part refl room size
          c.fill_row.ensures.row c.loop-row.invariant.rows;
    }
