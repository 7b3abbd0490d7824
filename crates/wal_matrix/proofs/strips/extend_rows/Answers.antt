use Rattle.wal_matrix.proofs.Common.{◌+◌, ◌*◌, ◌∙◌}
use Rattle.wal_matrix.proofs.FrontLaws.{are_bytes}
use Rattle.wal_matrix.proofs.Places.{even_product}
use Rattle.wal_matrix.proofs.StripLaws.{strip_extended}
use Rattle.wal_matrix.proofs.strips.extend_rows.Goals as goal

pub extend_regions-requires-clause-even : goal.extend_regions-requires-clause-even
extend_regions-requires-clause-even c = even_product (3 * c.args.faults + 1) c.args.long c.requires.even

pub returns : goal.returns
returns c = record {
  strip = strip_extended c.args.faults c.args.long c.args.strip.now c.extend_regions.new.buffer c.requires.few c.requires.even
      (c.extend_regions.auto.buffer ∙ c.requires.room) (are_bytes c.extend_regions.new.buffer c.type_inv.strip) c.extend_regions.ensures.same c.extend_regions.ensures.codeword;
}
