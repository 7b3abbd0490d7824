-- Places of identifiers, and the rows beside them.
use Rattle.wal_ledger.proofs.Common.{◌≡◌, ℕ, zero, suc, ◌<◌, ◌≤◌, Bool, true, false, cond, List, ◌∷◌, length, get_or, insert, slice_set, All, HoldsAt, inl, inr, refl, sym, ap, ◌∙◌, arith, Ordering, Less, Equal, Greater, is_eq, texts_ties, cases_lt, get_or_default, Less-from_sorted, BlobId, Row, id_eq, id_cmp, Ascends, IsPlace, IsInsertionPoint, row_beside, no_row, tied_itself}
use Rattle.std.specs.FinMap.{IsAntisymmetric, nat_cmp-IsAntisymmetric, slice_cmp-IsAntisymmetric}
use Rattle.wal_ledger.proofs.Order.{ids_total, insert_key_found, insert_key_gap}

-- identifiers that compare alike are one
pub exact_ids : IsAntisymmetric id_cmp
exact_ids a b h = ap (λ (l : List ℕ). record { 0 = l }) (slice_cmp-IsAntisymmetric nat_cmp-IsAntisymmetric a.0 b.0 h)

-- the test of equality is that of the order
pub id_tied : (a b : BlobId) (r : Ordering) → id_cmp a b ≡ r → id_eq a b ≡ is_eq r
id_tied a b r h = texts_ties a.0 b.0 ∙ ap is_eq h

-- an identifier equals itself
pub id_itself : (a : BlobId) → id_eq a a ≡ true
id_itself a = id_tied a a Equal (tied_itself ids_total a)

-- identifiers with the same bytes are one
pub id_same : (a b : BlobId) → id_eq a b ≡ true → a ≡ b
id_same a b h = exact_ids a b (grind (arith, id_tied a b (id_cmp a b) refl))

-- the place at which an identifier stands, and one between the smaller and the greater ones
pub place_found : (ids : List BlobId) (id : BlobId) (place : ℕ) → Ascends ids → place < length ids → HoldsAt (λ i. id_cmp i id ≡ Equal) ids place → IsPlace ids id place
place_found ids id place ascends lt at =
    let is : (d : BlobId) → get_or ids place d ≡ id = λ d. exact_ids (get_or ids place d) id (at d) in
    record {
      within = lt;
      here = is;
      before = λ j below d. id_tied (get_or ids j d) id Less (ap (id_cmp (get_or ids j d)) (sym (is d)) ∙ Less-from_sorted id_cmp ids j place d ascends below lt);
      stays = insert_key_found ids_total ids place id ascends lt at;
    }

-- a new identifier goes between those that are less and those that are greater
pub place_missed : (ids : List BlobId) (id : BlobId) (place : ℕ) → place ≤ length ids → ((j : ℕ) (d : BlobId) → j < place → id_cmp (get_or ids j d) id ≡ Less)
    → ((j : ℕ) (d : BlobId) → place ≤ j → j < length ids → id_cmp (get_or ids j d) id ≡ Greater) → IsInsertionPoint ids id place
place_missed ids id place le below above = record {
  within = le;
  absent = λ k d lt. elim (cases_lt k place) [ inl low ↦ id_tied (get_or ids k d) id Less (below k d low) | inr high ↦ id_tied (get_or ids k d) id Greater (above k d (omega arith) lt) ];
  inserted = insert_key_gap ids_total ids place id le below above;
}

-- the row beside an identifier at its first place
pub beside_place : (ids : List BlobId) (rows : List Row) (id : BlobId) (place : ℕ) (d : Row) → length rows ≡ length ids → place < length ids → HoldsAt (λ i. i ≡ id) ids place → ((j : ℕ) → j < place → HoldsAt (λ i. id_eq i id ≡ false) ids j) → row_beside ids rows id ≡ get_or rows place d
beside_place (i ∷ ids) (r ∷ rows) id zero d same lt here before =
    ap (λ b. cond b r (row_beside ids rows id)) (ap (λ j. id_eq j id) (here i) ∙ id_itself id)
beside_place (i ∷ ids) (r ∷ rows) id (suc p) d same lt here before =
    rw (before 0 (omega arith) i) (beside_place ids rows id p d (omega arith) (omega arith) here (λ j below. before (suc j) (omega arith)))
beside_place _ _ id place d same lt here before = absurd (omega arith)

-- the row at a place is that of the identifier at this place
pub beside_at : (ids : List BlobId) (rows : List Row) (place : ℕ) (d : BlobId) (r : Row) → Ascends ids → length rows ≡ length ids → place < length ids → row_beside ids rows (get_or ids place d) ≡ get_or rows place r
beside_at ids rows place d r ascends same lt =
    beside_place ids rows (get_or ids place d) place r same lt
    (λ e. get_or_default ids place e d lt)
    (λ j below e. id_tied (get_or ids j e) (get_or ids place d) Less
    (ap (id_cmp (get_or ids j e)) (get_or_default ids place d e lt) ∙ Less-from_sorted id_cmp ids j place e ascends below lt))

-- an identifier that does not stand there has no row
pub beside_none : (ids : List BlobId) (rows : List Row) (id : BlobId) → All (λ i. id_eq i id ≡ false) ids → row_beside ids rows id ≡ no_row
beside_none (i ∷ ids) (r ∷ rows) id none = rw (none 0 i (omega arith)) (beside_none ids rows id (λ k d lt. none (suc k) d (omega arith)))
beside_none _ _ id none = refl

swapped : (a b : Bool) (r s x : Row) → (a ≡ true → b ≡ true → ⊥) → cond a r (cond b s x) ≡ cond b s (cond a r x)
swapped a b r s x apart = grind arith

-- two tests for one identifier
apart : (i id q : BlobId) → id_eq i id ≡ false → id_eq i q ≡ true → id_eq id q ≡ true → ⊥
apart i id q differ left right =
    let e = id_same i q left in let g = id_same id q right in
    let same : id_eq i id ≡ true = ap (id_eq i) (g ∙ sym e) ∙ id_itself i in cc

-- another row at that place
pub beside_set : (ids : List BlobId) (rows : List Row) (id : BlobId) (place : ℕ) (row : Row) (q : BlobId) → length rows ≡ length ids → place < length ids → HoldsAt (λ i. i ≡ id) ids place → ((j : ℕ) → j < place → HoldsAt (λ i. id_eq i id ≡ false) ids j)
    → row_beside ids (slice_set rows place row) q ≡ cond (id_eq id q) row (row_beside ids rows q)
beside_set (i ∷ ids) (r ∷ rows) id zero row q same lt here before = rw (here i) (grind arith)
beside_set (i ∷ ids) (r ∷ rows) id (suc p) row q same lt here before =
    ap (λ x. cond (id_eq i q) r x) (beside_set ids rows id p row q (omega arith) (omega arith) here (λ j below. before (suc j) (omega arith)))
    ∙ swapped (id_eq i q) (id_eq id q) r row (row_beside ids rows q) (apart i id q (before 0 (omega arith) i))
beside_set _ _ id place row q same lt here before = absurd (omega arith)

-- a new identifier with its row
pub beside_insert : (ids : List BlobId) (rows : List Row) (id : BlobId) (place : ℕ) (row : Row) (q : BlobId) → length rows ≡ length ids → place ≤ length ids → All (λ i. id_eq i id ≡ false) ids
    → row_beside (insert ids place id) (insert rows place row) q ≡ cond (id_eq id q) row (row_beside ids rows q)
beside_insert ids rows id zero row q same le none = refl
beside_insert (i ∷ ids) (r ∷ rows) id (suc p) row q same le none =
    ap (λ x. cond (id_eq i q) r x) (beside_insert ids rows id p row q (omega arith) (omega arith) (λ k d lt. none (suc k) d (omega arith)))
    ∙ swapped (id_eq i q) (id_eq id q) r row (row_beside ids rows q) (apart i id q (none 0 i (omega arith)))
beside_insert _ _ id place row q same le none = absurd (omega arith)
