use Rattle.wal_kernel.proofs.Common.{subst, times, AreMultiples}
use Rattle.wal_kernel.proofs.ProductLemmas.{times-256, times-4096}
use Rattle.wal_kernel.proofs.products.tables_of.Goals as goal

pub returns : goal.returns
returns c =
    let by = c.args.c.0 in
    let second = c.times_sixteen-nibble1.ensures by c.multiples_of-nibble0.ensures in
    let third = subst (λ w. AreMultiples w c.times_sixteen-nibble2.result) (times-256 by) (c.times_sixteen-nibble2.ensures (times by 16) second) in
    record {
      nibble0 = c.multiples_of-nibble0.ensures;
      nibble1 = second;
      nibble2 = third;
      nibble3 = subst (λ w. AreMultiples w c.times_sixteen-nibble3.result) (times-4096 by) (c.times_sixteen-nibble3.ensures (times by 256) third);
    }
