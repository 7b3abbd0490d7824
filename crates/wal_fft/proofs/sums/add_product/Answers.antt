use Rattle.wal_fft.proofs.Common.{◌≡◌, rules, refl, times, zero-times, xor_zero_r}
use Rattle.wal_fft.proofs.Lanes.{sum_from}
use Rattle.wal_fft.proofs.sums.add_product.Goals as goal

pub returns-then-c-ne0 : goal.returns-then-c-ne0
returns-then-c-ne0 c =
    sum_from (times c.args.c.0) c.args.from c.args.target.now c.args.source.now c.add_scaled.new.dst c.requires.equal c.requires.within
    c.add_scaled.ensures.same_length c.add_scaled.ensures.words

pub returns-else-c-ne0 : goal.returns-else-c-ne0
returns-else-c-ne0 c =
    let none : c.args.c.0 ≡ 0 = search rules in
    record {
      long = refl;
      kept = λ p below. refl;
      added = λ p above within. rw (none, zero-times, xor_zero_r) refl;
    }
