use Rattle.wal_matrix.proofs.Common.{rules, ◌*◌, ◌≤◌, arith, refl, ◌∙◌, length-take-le}
use Rattle.wal_matrix.proofs.Places.{part_fits, even_product}
use Rattle.wal_matrix.proofs.TurnedLaws.{turned_extension_at}
use Rattle.wal_matrix.proofs.blocks.turn_and_extend.Goals as goal

pub transpose-requires-clause-room : goal.transpose-requires-clause-room
transpose-requires-clause-room c =
    let end = c.args.known * (c.args.lines * c.args.size) in
    let fits : end ≤ c.args.total * (c.args.lines * c.args.size) = part_fits c.args.known c.args.total (c.args.lines * c.args.size) c.requires.fewer in
    length-take-le end c.args.turned.now (omega arith) ∙ omega arith

pub extend_regions-requires-clause-even : goal.extend_regions-requires-clause-even
extend_regions-requires-clause-even c = even_product c.args.lines c.args.size c.requires.even

pub returns-clause-turned : goal.returns-clause-turned
returns-clause-turned c =
    let end = c.args.known * (c.args.lines * c.args.size) in
    turned_extension_at c.args.lines c.args.known c.args.total c.args.size c.args.block.now c.args.turned.now c.transpose.new.into c.extend_regions.new.buffer end
    c.requires.even refl c.requires.fewer (search rules) c.transpose.ensures c.extend_regions.ensures.same c.extend_regions.ensures.codeword
