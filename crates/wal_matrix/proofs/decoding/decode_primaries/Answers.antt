use Rattle.wal_matrix.proofs.Common.{rules, ◌≡◌, ℕ, ◌*◌, arith, sym, ap₂, ◌∙◌, column_count, symbol_size, symbol_size-least, length}
use Rattle.wal_matrix.proofs.Decoded.{AreSlivers, AreSums, sums_source, through_some}
use Rattle.wal_matrix.proofs.decoding.decode_primaries.Goals as goal

slivers_are : (c : goal.After-from_vec)
    → AreSlivers c.args.shape.now.f (symbol_size c.args.shape.now.f c.args.shape.now.length) c.args.indices.now c.args.joined.now
slivers_are c =
    let least = symbol_size-least c.args.shape.now.f c.args.shape.now.length in
    record {
      few = omega (arith, c.rows-rows.ensures.value, c.rows-rows.ensures.most);
      even = least.even;
      some = omega (arith, least.positive);
      count = c.requires.count;
      distinct = c.requires.distinct;
      below = c.requires.below;
      size = c.requires.size;
      bytes = λ i. let fits = c.type_inv.joined i in search rules;
    }

rows_are : (c : goal.After-from_vec)
    → AreSums c.args.shape.now.f (symbol_size c.args.shape.now.f c.args.shape.now.length) c.args.indices.now c.args.joined.now c.in_ok-block.block.items
rows_are c =
    let f = c.args.shape.now.f in
    let s = symbol_size f c.args.shape.now.length in
    let size : c.cols.result * c.symbol_size.result ≡ column_count f * s = ap₂ (λ (x y : ℕ). x * y) c.cols.ensures.value c.symbol_size.ensures.value in
    let long : length c.in_ok-block.block.items ≡ c.rows-rows.result * (c.cols.result * c.symbol_size.result) = search rules in
    record {
      long = rw (c.rows-rows.ensures.value, size) at long;
      bytes = c.in_ok-block.ensures.bytes;
      sums = rw (c.rows-rows.ensures.value, size) at c.in_ok-block.ensures.sums;
    }

pub returns-clause-only : goal.returns-clause-only
returns-clause-only c =
    let f = c.args.shape.now.f in
    let s = symbol_size f c.args.shape.now.length in
    λ e is. sym (sums_source f s c.args.indices.now c.args.joined.now c.in_ok-block.block.items (slivers_are c) (rows_are c) e is) ∙ sym c.from_vec.ensures

pub returns-clause-decoded : goal.returns-clause-decoded
returns-clause-decoded c =
    let found = through_some _ _ _ _ (slivers_are c) in (found.0, found.1, sym (returns-clause-only c found.0 found.1))
