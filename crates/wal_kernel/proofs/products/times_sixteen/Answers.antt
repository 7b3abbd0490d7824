use Rattle.wal_kernel.proofs.Common.{◌/◌, ◌%◌, high_of_sixteenfold, low_of_sixteenfold}
use Rattle.wal_kernel.proofs.ProductLemmas.{table_of, high_of_product, low_of_product}
use Rattle.wal_kernel.proofs.products.times_sixteen.Goals as goal

pub returns : goal.returns
returns c by products = record {
  high_bytes =
      table_of high_of_sixteenfold (λ w. w / 256) high_of_product by c.args.multiples.high c.args.multiples.low _
      products.high_bytes products.low_bytes c.high_times_sixteen.ensures;
  low_bytes =
      table_of low_of_sixteenfold (λ w. w % 256) low_of_product by c.args.multiples.high c.args.multiples.low _
      products.high_bytes products.low_bytes c.low_times_sixteen.ensures;
}
