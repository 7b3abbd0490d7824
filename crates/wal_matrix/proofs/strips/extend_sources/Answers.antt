use Rattle.wal_matrix.proofs.Common.{◌∙◌}
use Rattle.wal_matrix.proofs.FrontLaws.{are_bytes}
use Rattle.wal_matrix.proofs.StripLaws.{row_strip}
use Rattle.wal_matrix.proofs.strips.extend_sources.Goals as goal

pub returns : goal.returns
returns c = record {
  row = row_strip c.args.faults c.args.long c.args.cells.now c.extend_regions.new.buffer c.requires.few c.requires.even
      (c.extend_regions.auto.buffer ∙ c.requires.room) (are_bytes c.extend_regions.new.buffer c.type_inv.cells) c.extend_regions.ensures.same c.extend_regions.ensures.codeword;
}
