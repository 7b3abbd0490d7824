-- Rows that stay where they are, and the list of their numbers.
use Rattle.wal_store.proofs.Common.{◌≡◌, ◌≢◌, ℕ, zero, suc, ◌+◌, ◌<◌, ◌≤◌, Some, List, [], ◌∷◌, ◌++◌, length, slice_get, slice_set, get_or, nat_eq, cond, refl, sym, ap, ◌∙◌, arith, option_map, range_with_len, sum_by, nat_tests, map-id, length-map, length-append, get_or-set_same, get_or-set_other, length-remove, is_sum_by, sum_by-append, slice_get_read, slice_get_within, slice_get-map, get_or_from_slice_get, Row, uses, RowList, row_of, rows_at, IsOrder}
use Rattle.std.specs.List.{insert, remove}
use Rattle.std.proofs.lemmas.List.{length-set}
use Rattle.std.proofs.lemmas.List.FromFn.{map-range_with_len_more, length-range_with_len}
use Rattle.wal_store.proofs.Edits.{map-insert, map-remove, length-insert, sum-insert, sum-remove, sum-within}
use Rattle.wal_store.proofs.ChainLaws.{uses_self, uses_cons}

pub length-rows_at : (S : List Row) (ks : List ℕ) → length (rows_at S ks) ≡ length ks
length-rows_at S ks = length-map ks (row_of S)

-- how often a number is in a list, as a sum
uses_sum : (k : ℕ) (ks : List ℕ) → uses k ks ≡ sum_by (λ x. cond (nat_eq k x) 1 0) ks
uses_sum k = is_sum_by (uses k) (λ x. cond (nat_eq k x) 1 0) refl (λ x xs. refl)

-- a number of the order is used
used : (ks : List ℕ) (i k : ℕ) → slice_get ks i ≡ Some k → 0 < uses k ks
used ks i k at = omega (arith, sum-within _ _ (uses_sum k) ks i k at, uses_self k [])

-- the row at a place is the one with the number there
pub numbered : (S : List Row) (ks : List ℕ) (i k : ℕ) → slice_get ks i ≡ Some k → slice_get (rows_at S ks) i ≡ Some (row_of S k)
numbered S ks i k at = slice_get-map (row_of S) ks i ∙ ap (option_map (row_of S)) at

pub rows_same : (S R : List Row) (ks : List ℕ) → ((k : ℕ) → 0 < uses k ks → row_of R k ≡ row_of S k) → rows_at R ks ≡ rows_at S ks
rows_same S R [] same = refl
rows_same S R (j ∷ ks) same =
    cc (same j (omega (arith, uses_self j ks)), rows_same S R ks (λ k is. same k (omega (arith, is, uses_cons k j ks))))

-- a row that is written over is one of the list
pub rows_at-set : (S : List Row) (ks : List ℕ) (i k : ℕ) (w : Row) → slice_get ks i ≡ Some k → ((j : ℕ) → uses j ks ≤ 1) → k < length S → rows_at (slice_set S k w) ks ≡ slice_set (rows_at S ks) i w
rows_at-set S [] i k w at once within = cc
rows_at-set S (j ∷ ks) zero k w at once within =
    let is : j ≡ k = cc in
    let none : uses k ks ≡ 0 = omega (arith, once k, ap (λ n. uses k (n ∷ ks)) is, uses_self k ks) in
    let head : row_of (slice_set S k w) k ≡ w = get_or-set_same S k w _ within in
    let rest = rows_same S (slice_set S k w) ks
    (λ m u. get_or-set_other S k m w _ (λ same. absurd (omega (arith, u, none, ap (λ n. uses n ks) same)))) in
    cc (is, head, rest)
rows_at-set S (j ∷ ks) (suc i) k w at once within =
    let u = used ks i k at in
    let other : j ≢ k = λ same. absurd (omega (arith, once k, u, ap (λ n. uses k (n ∷ ks)) same, uses_self k ks)) in
    let head : row_of (slice_set S k w) j ≡ row_of S j = get_or-set_other S k j w _ other in
    cc (head, rows_at-set S ks i k w at (λ m. omega (arith, once m, uses_cons m j ks)) within)

uses-insert : (k : ℕ) (ks : List ℕ) (i x : ℕ) → uses k (insert ks i x) ≡ uses k (x ∷ []) + uses k ks
uses-insert k ks i x = omega (arith, sum-insert _ _ (uses_sum k) ks i x)

uses-remove : (k : ℕ) (ks : List ℕ) (i x : ℕ) → slice_get ks i ≡ Some x → uses k (remove ks i) + uses k (x ∷ []) ≡ uses k ks
uses-remove k ks i x at = omega (arith, sum-remove _ _ (uses_sum k) ks i x at)

uses-append : (k : ℕ) (xs ys : List ℕ) → uses k (xs ++ ys) ≡ uses k xs + uses k ys
uses-append k xs ys =
    omega (arith, uses_sum k (xs ++ ys), uses_sum k xs, uses_sum k ys, sum_by-append (λ y. cond (nat_eq k y) 1 0) xs ys)

-- the number at a place is that of a row
number_within : (S : List Row) (order unused : List ℕ) (i k : ℕ) → IsOrder S order unused
    → slice_get order i ≡ Some k → k < length S
number_within S order unused i k is at = is.within k (omega (arith, used order i k at))

-- as many rows are seen as there are numbers in the order
pub seen_long : (S : List Row) (order : List ℕ) (room : ℕ) (seen : RowList)
    → ◌≡◌ {A = RowList} (record { items = rows_at S order; room = room }) seen → length seen.items ≡ length order
seen_long S order room seen view = ap (λ r. length r.items) (sym view) ∙ length-rows_at S order

-- the number that is read at the place of a row
pub number_at : (S : List Row) (order unused : List ℕ) (room : ℕ) (seen : RowList) (i k : ℕ) → IsOrder S order unused
    → ◌≡◌ {A = RowList} (record { items = rows_at S order; room = room }) seen → i < length seen.items
    → k ≡ get_or order i k → (slice_get order i ≡ Some k) × (k < length S)
number_at S order unused room seen i k is view within read =
    let at = slice_get_read order _ i k refl (omega (arith, seen_long S order room seen view)) read in
    (at, number_within S order unused i k is at)

-- the rows and their order after a change
pub record Ordered (S : List Row) (ks unused : List ℕ) (rs : List Row) : Type 0 where
  pub sound : IsOrder S ks unused
  pub rows : rows_at S ks ≡ rs

-- a row is written over
pub row_set : (S : List Row) (order unused : List ℕ) (i k : ℕ) (w : Row) → IsOrder S order unused → slice_get order i ≡ Some k → Ordered (slice_set S k w) order unused (slice_set (rows_at S order) i w)
row_set S order unused i k w is at = record {
  sound = record { once = is.once; within = λ j u. omega (arith, is.within j u, length-set S k w); all = is.all ∙ sym (length-set S k w) };
  rows = rows_at-set S order i k w at (λ j. omega (arith, is.once j)) (number_within S order unused i k is at);
}

-- the last number that is not used is
pub last_within : (S : List Row) (order unused left : List ℕ) (k : ℕ) → IsOrder S order unused → unused ≡ left ++ k ∷ [] → k < length S
last_within S order unused left k is last =
    is.within k (omega (arith, ap (uses k) last, uses-append k left (k ∷ []), uses_self k []))

-- a row written to the last unused place is in order where it was inserted
pub row_put : (S : List Row) (order unused left : List ℕ) (i k : ℕ) (w : Row) → IsOrder S order unused → unused ≡ left ++ k ∷ [] → Ordered (slice_set S k w) (insert order i k) left (insert (rows_at S order) i w)
row_put S order unused left i k w is last =
    let split : (j : ℕ) → uses j unused ≡ uses j left + uses j (k ∷ []) = λ j. ap (uses j) last ∙ uses-append j left (k ∷ []) in
    let within = last_within S order unused left k is last in
    let none : uses k order ≡ 0 = omega (arith, is.once k, split k, uses_self k []) in
    let others = rows_same S (slice_set S k w) order
    (λ m u. get_or-set_other S k m w _ (λ same. absurd (omega (arith, u, none, ap (λ n. uses n order) same)))) in
    let head : row_of (slice_set S k w) k ≡ w = get_or-set_same S k w _ within in
    record {
      sound = record {
        once = λ j. omega (arith, is.once j, split j, uses-insert j order i k);
        within = λ j u. let more : 0 < uses j order + uses j unused = omega (arith, u, split j, uses-insert j order i k) in omega (arith, is.within j more, length-set S k w);
        all = omega (arith, is.all, length-insert order i k, ap length last, length-append left (k ∷ []), length-set S k w);
      };
      rows = cc (map-insert (row_of (slice_set S k w)) order i k, others, head);
    }

-- a row is taken out
pub row_gone : (S : List Row) (order unused : List ℕ) (i k : ℕ) → IsOrder S order unused → slice_get order i ≡ Some k → Ordered S (remove order i) (unused ++ k ∷ []) (remove (rows_at S order) i)
row_gone S order unused i k is at = record {
  sound = record {
    once = λ j. omega (arith, is.once j, uses-remove j order i k at, uses-append j unused (k ∷ []));
    within = λ j u. is.within j (omega (arith, u, uses-remove j order i k at, uses-append j unused (k ∷ [])));
    all = omega (arith, is.all, length-remove order i (slice_get_within order i k at), length-append unused (k ∷ []));
  };
  rows = map-remove (row_of S) order i;
}

range_uses : (a n k : ℕ)
    → (uses k (range_with_len a n) ≤ 1) × (0 < uses k (range_with_len a n) → (a ≤ k) × (k < a + n))
range_uses a zero k = omega arith
range_uses a (suc n) k =
    let rest = range_uses (a + 1) n k in (grind (arith, nat_tests), λ used. grind (arith, nat_tests))

-- with no rows in order, all places are unused
pub no_order : (S : List Row) (order unused : List ℕ) (n : ℕ) → length S ≡ n → order ≡ [] → unused ≡ range_with_len 0 n → IsOrder S order unused
no_order S order unused n long none all = record {
  once = λ k. omega (arith, ap (uses k) none, ap (uses k) all, (range_uses 0 n k).0);
  within = λ k u. omega (arith, ((range_uses 0 n k).1 (omega (arith, u, ap (uses k) none, ap (uses k) all))).1, long);
  all = omega (arith, ap length none, ap length all, length-range_with_len 0 n, long);
}

-- what is read at the number is what stands at the place
pub row_there : (S : List Row) (order unused : List ℕ) (i k : ℕ) (x : Row) → IsOrder S order unused → slice_get order i ≡ Some k → x ≡ get_or S k x → x ≡ get_or (rows_at S order) i x
row_there S order unused i k x is at read =
    let within = number_within S order unused i k is at in
    let here : slice_get S k ≡ Some x = slice_get_read S _ k x refl within read in
    sym (get_or_from_slice_get S k x _ here)
    ∙ sym (get_or_from_slice_get (rows_at S order) i (row_of S k) x (numbered S order i k at))

-- the numbers from one on, and the next one
pub range_more : (a n j : ℕ) → a + n ≡ j → range_with_len a (n + 1) ≡ range_with_len a n ++ j ∷ []
range_more a n j next =
    cc (map-id (range_with_len a (n + 1)), map-range_with_len_more (λ k. k) a n j next, map-id (range_with_len a n))
