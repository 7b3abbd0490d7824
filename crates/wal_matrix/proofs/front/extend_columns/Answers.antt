use Rattle.wal_matrix.proofs.Common.{◌∙◌}
use Rattle.wal_matrix.proofs.FrontLaws.{are_bytes, columns_extended}
use Rattle.wal_matrix.proofs.Places.{even_product}
use Rattle.wal_matrix.proofs.front.extend_columns.Goals as goal

pub extend_regions-requires-clause-even : goal.extend_regions-requires-clause-even
extend_regions-requires-clause-even c = even_product c.args.count c.args.size c.requires.even

pub returns : goal.returns
returns c = record {
  columns = columns_extended c.args.faults c.args.size c.args.count c.args.block.now c.extend_regions.new.buffer c.requires.few c.requires.even
      (c.extend_regions.auto.buffer ∙ c.requires.room) (are_bytes c.extend_regions.new.buffer c.type_inv.block) c.extend_regions.ensures.same c.extend_regions.ensures.codeword;
}
