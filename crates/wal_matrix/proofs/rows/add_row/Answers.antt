use Rattle.wal_matrix.proofs.Common.{rules, ◌≡◌, ℕ, ◌+◌, ◌*◌, List, length, take, drop, vec_len, subst, sym, ap, ◌∙◌, take_at, IsRowFrom}
use Rattle.wal_matrix.proofs.RowLaws.{row_from, rows_kept, laid_long}
use Rattle.wal_matrix.proofs.rows.add_row.Goals as goal

pub extend_row-requires-clause-row : goal.extend_row-requires-clause-row
extend_row-requires-clause-row c =
    ap length c.deref_mut.ensures.value
    ∙ laid_long c.args.start c.args.code.known c.args.code.total c.args.code.size c.len-place.result c.args.bytes.now
    c.args.cells.now.items c.lay_row.new.cells.items c.requires.fewer (search rules) c.in_ok-lay_row.ensures

pub returns-clause-long : goal.returns-clause-long
returns-clause-long c =
    let len : vec_len c.lay_row.new.cells ≡ length c.lay_row.new.cells.items = search rules in
    len
    ∙ laid_long c.args.start c.args.code.known c.args.code.total c.args.code.size (vec_len c.args.cells.now) c.args.bytes.now
    c.args.cells.now.items c.lay_row.new.cells.items c.requires.fewer (search rules) c.in_ok-lay_row.ensures

pub returns-clause-kept : goal.returns-clause-kept
returns-clause-kept c =
    let old = c.args.cells.now.items in
    let new = c.extend_row.new.cells in
    let place = c.len-place.result in
    let more = c.args.code.known * c.args.code.size in
    let start : vec_len c.args.cells.now ≡ place = search rules in
    let whole : length new ≡ vec_len c.lay_row.new.cells = c.extend_row.auto.cells ∙ c.deref_mut.ensures.len in
    ap (λ (ys : List ℕ). take (vec_len c.args.cells.now) ys) (take_at new _ _ whole) ∙ ap (λ (k : ℕ). take k new) start
    ∙ rows_kept place more old _ c.lay_row.new.cells.items new (search rules) c.in_ok-lay_row.ensures
    (c.extend_row.ensures.kept ∙ ap (λ (ys : List ℕ). take (place + more) ys) c.deref_mut.ensures.value)

pub returns-clause-row : goal.returns-clause-row
returns-clause-row c =
    let new = c.extend_row.new.cells in
    let place = c.len-place.result in
    let start : place ≡ vec_len c.args.cells.now = search rules in
    let whole : length new ≡ vec_len c.lay_row.new.cells = c.extend_row.auto.cells ∙ c.deref_mut.ensures.len in
    let Q : ℕ → List ℕ → Type 0 = λ k ys. IsRowFrom c.args.code.known c.args.code.total c.args.code.size c.args.bytes.now c.args.start (drop k ys) in
    subst (Q (vec_len c.args.cells.now)) (sym (take_at new _ _ whole))
    (subst (λ (k : ℕ). Q k new) start
    (row_from c.args.code.known c.args.code.total c.args.code.size place c.args.start c.args.bytes.now c.args.cells.now.items
    c.lay_row.new.cells.items new (search rules)
    c.in_ok-lay_row.ensures
    (c.extend_row.ensures.kept
    ∙ ap (λ (ys : List ℕ). take (place + c.args.code.known * c.args.code.size) ys) c.deref_mut.ensures.value)
    c.extend_row.ensures.codeword))
