use Rattle.wal_matrix.proofs.Common.{◌≡◌, ◌-◌, ◌*◌, length, arith, refl, ◌∙◌}
use Rattle.wal_matrix.proofs.Places.{part_fits}
use Rattle.wal_matrix.proofs.TailLaws.{tail_long, tail_kept, tail_codeword}
use Rattle.wal_matrix.proofs.rows.extend_row.Goals as goal

pub returns-clause-kept : goal.returns-clause-kept
returns-clause-kept c =
    let cells = c.args.cells.now in
    let place = c.args.place in
    let whole = tail_long place (c.args.code.total * c.args.code.size) cells c.requires.row in
    let fits = part_fits c.args.code.known c.args.code.total c.args.code.size c.requires.fewer in
    let long : length c.extend_regions.new.buffer ≡ length cells - place = c.extend_regions.auto.buffer ∙ whole ∙ omega arith in
    tail_kept place (c.args.code.known * c.args.code.size) (length cells - place) cells c.extend_regions.new.buffer refl (omega arith) (omega arith) long
    c.extend_regions.ensures.same

pub returns-clause-codeword : goal.returns-clause-codeword
returns-clause-codeword c =
    let cells = c.args.cells.now in
    let place = c.args.place in
    let whole = tail_long place (c.args.code.total * c.args.code.size) cells c.requires.row in
    tail_codeword place c.args.code.known c.args.code.total c.args.code.size (length cells - place) cells c.extend_regions.new.buffer (omega arith)
    (c.extend_regions.auto.buffer ∙ whole)
    c.extend_regions.ensures.codeword
