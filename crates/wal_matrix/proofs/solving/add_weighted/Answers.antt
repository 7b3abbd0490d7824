use Rattle.wal_matrix.proofs.Common.{rules, refl, ◌≡◌}
use Rattle.std.specs.Int.Bits.{xor_zero_r}
use Rattle.wal_gf.proofs.Products.{zero-times}
use Rattle.wal_matrix.proofs.solving.add_weighted.Goals as goal

pub returns-else-weight-ne0 : goal.returns-else-weight-ne0
returns-else-weight-ne0 c =
    let none : c.args.weight.0 ≡ 0 = search rules in
    record { same_length = refl; words = λ i _. rw (none, zero-times, xor_zero_r) refl }
