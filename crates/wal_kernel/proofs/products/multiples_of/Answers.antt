use Rattle.wal_kernel.proofs.Common.{ℕ, ◌/◌, ◌%◌, ◌∙◌, ap, refl, arith, rules, times}
use Rattle.wal_kernel.proofs.ProductLemmas.{two_bytes, multiples, first_of, second_of}
use Rattle.wal_kernel.proofs.products.multiples_of.Goals as goal

pub returns : goal.returns
returns c =
    let by_4 = c.doubled-by_4.ensures ∙ ap (λ (w : ℕ). times w 2) c.doubled-by_2.ensures in
    let by_8 = c.doubled.ensures ∙ ap (λ (w : ℕ). times w 2) by_4 in
    let bytes = two_bytes {word = c.args.c.0} (search rules) c.to_be_bytes.ensures refl in
    let bytes_2 = two_bytes (omega arith) c.to_be_bytes-2.ensures c.doubled-by_2.ensures in
    let bytes_4 = two_bytes (omega arith) c.to_be_bytes-3.ensures by_4 in
    let bytes_8 = two_bytes (omega arith) c.to_be_bytes-4.ensures by_8 in
    record {
      high_bytes =
          multiples (λ w. w / 256) refl first_of c.args.c.0 _ _ _ _ c.spanned.result (search rules) c.spanned.ensures
          bytes.0 bytes_2.0 bytes_4.0 bytes_8.0;
      low_bytes =
          multiples (λ w. w % 256) refl second_of c.args.c.0 _ _ _ _ c.spanned-2.result (search rules) c.spanned-2.ensures
          bytes.1 bytes_2.1 bytes_4.1 bytes_8.1;
    }
