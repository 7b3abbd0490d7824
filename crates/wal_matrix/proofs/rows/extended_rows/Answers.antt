use Rattle.wal_matrix.proofs.Common.{rules, ◌≡◌, ℕ, ◌*◌, List, length, take, vec_len, arith, subst, sym, ap, ◌∙◌, take_at, shard_count, row_count, symbol_size, IsMatrixOf, padded}
use Rattle.wal_matrix.proofs.Places.{even_product}
use Rattle.wal_matrix.proofs.RowLaws.{extended_in_place}
use Rattle.wal_matrix.proofs.rows.extended_rows.Goals as goal

pub extend_down-requires-clause-even : goal.extend_down-requires-clause-even
extend_down-requires-clause-even c = even_product (shard_count c.args.f) c.args.size c.requires.even

pub returns : goal.returns
returns c =
    let f = c.args.f in
    let run = shard_count f * c.args.size in
    let cells = c.in_ok-cells.cells in
    let filled = c.resize.new.self in
    let e = c.extend_down.new.cells in
    let kept : length e ≡ vec_len filled = c.extend_down.auto.cells ∙ c.deref_mut-2.ensures.len in
    let long : length e ≡ shard_count f * run = kept ∙ (search rules) in
    let P : List ℕ → Type 0 = λ ys. IsMatrixOf f (symbol_size f (length c.args.bytes.now)) (padded f c.args.bytes.now)
    ys in
    subst P (sym (take_at e _ _ kept))
    (extended_in_place f c.args.size (vec_len cells) c.args.bytes.now cells.items filled.items e c.requires.few
    c.requires.even c.requires.size
    (long ∙ omega arith) c.extend_down.ensures.bytes (search rules) c.in_ok-cells.ensures.long
    c.in_ok-resize.ensures.items
    (c.extend_down.ensures.same ∙ ap (λ (ys : List ℕ). take (row_count f * run) ys) c.deref_mut-2.ensures.value)
    c.in_ok-cells.ensures.rows c.extend_down.ensures.codeword)
