-- Rows of one index have one root where the metadata are the same.
use Rattle.wal_extract.proofs.Common.{◌≡◌, ◌∙◌, ◌*◌, length, arith, rules, sym, IfOk-weaker, shard_count, some, within}
use Rattle.wal_extract.proofs.OneIdentifier.{rows_one_root, same_shape}
use Rattle.wal_extract.proofs.Sizes.{whole}
use Rattle.wal_extract.proofs.matrices.collide_rows.Goals as goal

pub first_row_apart-index-requires-clause-shape : goal.first_row_apart-index-requires-clause-shape
first_row_apart-index-requires-clause-shape g c = same_shape _ _ _ _ _ c.requires.one

pub row-requires-2 : goal.row-requires-2
row-requires-2 g c = rw (same_shape _ _ _ _ _ c.requires.one) at c.first_row_apart-index.ensures.within

pub collide_lists-requires : goal.collide_lists-requires
collide_lists-requires g c =
    let n = shard_count c.args.a.now.shape.f in
    let index = c.first_row_apart-index in
    let shape = same_shape _ _ _ _ _ c.requires.one in
    let size = rw c.shape.ensures at c.symbol_size.ensures.value in
    let long : length c.row.result.now ≡ n * c.symbol_size.result = rw size c.row.ensures.long in
    record {
      piece = search rules;
      whole = whole n _ _ long;
      some = some n _ _ (omega arith) long;
      within = within n _ _ (omega (arith, c.requires.shape.1)) long;
      long = rw (← shape) at c.row-2.ensures.long ∙ sym c.row.ensures.long;
      one = rw (c.row.ensures.value, c.row-2.ensures.value, size)
          (rows_one_root _ _ _ _ _ index.result c.requires.one shape index.ensures.within);
      differ = rw (c.row.ensures.value, c.row-2.ensures.value) index.ensures.apart;
    }

pub returns-clause-texts : goal.returns-clause-texts
returns-clause-texts g c =
    let index = c.first_row_apart-index in
    let shape = same_shape _ _ _ _ _ c.requires.one in
    let size = rw c.shape.ensures at c.symbol_size.ensures.value in
    let other = rw (← shape) at c.row-2.ensures.value in
    let first = rw (← shape) at index.ensures.first in
    IfOk-weaker c.collide_lists.result _ _
    (λ t meet. (index.result, index.ensures.within, first, rw (size, c.row.ensures.value, other) at meet))
    c.collide_lists.ensures.texts
