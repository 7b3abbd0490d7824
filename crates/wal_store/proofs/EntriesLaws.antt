-- Lists of entries in the order of their keys, and the finite map that they make.
use Rattle.wal_store.proofs.Common.{◌≡◌, true, cond, T, ◌++◌, Some, None, List, [], ◌∷◌, length, refl, sym, ap, ◌∙◌, arith, Ordering, Less, is_eq, append_assoc, ℕ, zero, suc, ◌<◌, slice_get, slice_set, Greater, Bool, IsTotalOrder, eq_by_cmp_equiv, tied_itself, AllByRecursion, IsStrictlySortedBy, keys_of, lookup, set_value, remove_entry, is_at, insert_entry, FinMap, IsAntisymmetric, find, put, is_sorted, below_all, lookup-none, lookup-remove_entry, none_below_head, sorted_tail, IsDistinct-from_sorted}
use Rattle.std.specs.List.{insert, remove}
use Rattle.std.specs.FinMap as fin

module _ {K X : Type 0} (R : K → K → Ordering) where
  below_test : (k : K) (es : List (K × X)) → AllByRecursion (λ y. R k y ≡ Less) (keys_of es) → below_all R k es ≡ true
  below_test k [] below = refl
  below_test k (e ∷ es) below = cc (below.0, below_test k es below.1)

  pub sorted_test : (es : List (K × X)) → IsStrictlySortedBy R (keys_of es) → T (is_sorted R es)
  unfolding IsStrictlySortedBy
  sorted_test [] sorted = tt
  sorted_test (e ∷ es) sorted = rw (below_test e.0 es sorted.0) (sorted_test es sorted.1)

  -- the map that sorted entries make has them
  pub entries_view : (es : List (K × X)) → IsStrictlySortedBy R (keys_of es) → fin.entries (fin.from_sorted {R = R} es) ≡ es
  entries_view es sorted = fin.entries-from_sorted R es (sorted_test es sorted)

  pub empty_view : fin.from_sorted {R = R} [] ≡ fin.empty {X = X}
  unfolding IsStrictlySortedBy
  empty_view =
      fin.empty_of_len (fin.from_sorted []) (fin.len-entries (fin.from_sorted []) ∙ ap length (entries_view [] tt))

  pub len_view : (es : List (K × X)) → IsStrictlySortedBy R (keys_of es) → fin.len (fin.from_sorted {R = R} es) ≡ length es
  len_view es sorted = fin.len-entries (fin.from_sorted {R = R} es) ∙ ap length (entries_view es sorted)

  find_is : (q : K) (es : List (K × X)) → find R q es ≡ lookup (is_at (R q)) es
  find_is q [] = refl
  find_is q (e ∷ es) = ap (cond (is_eq (R q e.0)) (Some e.1)) (find_is q es)

  -- what the map has at a key
  pub get_view : (es : List (K × X)) (q : K) → IsStrictlySortedBy R (keys_of es) → fin.get (fin.from_sorted {R = R} es) q ≡ lookup (is_at (R q)) es
  get_view es q sorted = fin.get-from_sorted R es q (sorted_test es sorted) ∙ find_is q es

  put_is : (k : K) (v : X) (es : List (K × X)) → put R k v es ≡ insert_entry R es k v
  put_is k v [] = refl
  put_is k v (e ∷ es) = grind (arith, put_is k v es)

module _ {K X : Type 0} (R : K → K → Ordering) (total : IsTotalOrder R) where
  -- an entry that is put in its place
  pub insert_view : (es : List (K × X)) (k : K) (v : X) → IsStrictlySortedBy R (keys_of es) → fin.from_sorted {R = R} (insert_entry R es k v) ≡ fin.insert (fin.from_sorted es) k v
  insert_view es k v sorted =
      let m : FinMap R X = fin.from_sorted es in
      let made : fin.entries (fin.insert m k v) ≡ insert_entry R es k v =
      cc (fin.entries-insert total m k v, entries_view R es sorted, put_is R k v es) in
      let in_order = rw made at (fin.entries_sorted (fin.insert m k v)) in
      fin.same_entries_map _ _ (fin.entries-from_sorted R (insert_entry R es k v) in_order ∙ sym made)

  -- an entry that is taken out
  pub remove_view : (same : IsAntisymmetric R) (es : List (K × X)) (k : K) → IsStrictlySortedBy R (keys_of es) → IsStrictlySortedBy R (keys_of (remove_entry (is_at (R k)) es)) → fin.from_sorted {R = R} (remove_entry (is_at (R k)) es) ≡ fin.remove (fin.from_sorted es) k
  remove_view same es k sorted after = fin.same_map total same _ _ (λ q.
      get_view R (remove_entry (is_at (R k)) es) q after
      ∙ lookup-remove_entry (eq_by_cmp_equiv total) (is_at (R k)) (λ x y at. (eq_by_cmp_equiv total).congr k x y at) q es (IsDistinct-from_sorted R (keys_of es) sorted)
      ∙ sym (fin.get-remove total (fin.from_sorted es) k q
      ∙ ap (λ b. cond b None (fin.get (fin.from_sorted {R = R} es) q)) ((eq_by_cmp_equiv total).symm q k)
      ∙ ap (cond (is_at (R k) q) None) (get_view R es q sorted)))

  -- a value that is written over one is put in its place
  pub set_value_is : (es : List (K × X)) (k : K) (v w : X) → IsStrictlySortedBy R (keys_of es) → lookup (is_at (R k)) es ≡ Some v → set_value (is_at (R k)) es w ≡ insert_entry R es k w
  set_value_is [] k v w sorted found = cc
  set_value_is (e ∷ es) k v w sorted found =
      let low : R k e.0 ≡ Less → lookup (is_at (R k)) (e ∷ es) ≡ None =
      λ less. lookup-none (is_at (R k)) (e ∷ es) (none_below_head total k e es sorted less) in
      let later = set_value_is es k v w (sorted_tail R e.0 (keys_of es) sorted) in
      grind (arith, low, later)

  -- an entry past all others is put at the end
  pub insert_last : (es fs : List (K × X)) (k : K) (v : X) → IsStrictlySortedBy R (keys_of (es ++ (k, v) ∷ fs)) → insert_entry R es k v ≡ es ++ (k, v) ∷ []
  unfolding IsStrictlySortedBy
  insert_last [] fs k v sorted = refl
  insert_last (e ∷ es) fs k v sorted =
      cc (total.antisymm k e.0, below_at e.0 es fs k v sorted.0, insert_last es fs k v sorted.1)
    where
      below_at : (x : K) (es fs : List (K × X)) (k : K) (v : X) → AllByRecursion (λ y. R x y ≡ Less) (keys_of (es ++ (k, v) ∷ fs)) → R x k ≡ Less
      below_at x [] fs k v all = all.0
      below_at x (e ∷ es) fs k v all = below_at x es fs k v all.1

  -- entries that are taken over in order
  pub one_taken_over : (es left rest all new : List (K × X)) (k : K) (v w : X) → es ++ left ≡ all → left ≡ (k, v) ∷ rest → IsStrictlySortedBy R (keys_of all) → w ≡ v → new ≡ insert_entry R es k w → new ++ rest ≡ all
  one_taken_over es left rest all new k v w so_far next sorted same put =
      let whole : es ++ (k, v) ∷ rest ≡ all = cc in
      cc (insert_last es rest k v (rw whole sorted), append_assoc es ((k, v) ∷ []) rest)

-- ---- Entries in order, changed at a place.

-- to remove what is not there changes nothing
pub gone_none : {K X : Type 0} (test : K → Bool) (es : List (K × X)) → lookup test es ≡ None → remove_entry test es ≡ es
gone_none test [] none = refl
gone_none test (e ∷ es) none = grind (arith, gone_none test es)

module _ {K X : Type 0} (R : K → K → Ordering) (total : IsTotalOrder R) where
  head_below : (x : K) (es : List (K × X)) (i : ℕ) (k : K) (v : X) → AllByRecursion (λ y. R x y ≡ Less) (keys_of es)
      → slice_get es i ≡ Some (k, v) → R k x ≡ Greater
  head_below x [] i k v below found = cc
  head_below x (e ∷ es) zero k v below found = cc (total.antisymm k x, below.0)
  head_below x (e ∷ es) (suc i) k v below found = head_below x es i k v below.1 found

  -- a value in place of another
  pub set_at : (es : List (K × X)) (i : ℕ) (k : K) (v w : X) → IsStrictlySortedBy R (keys_of es)
      → slice_get es i ≡ Some (k, v) → slice_set es i (k, w) ≡ insert_entry R es k w
  unfolding IsStrictlySortedBy
  set_at (e ∷ es) (suc i) k v w sorted found =
      cc (head_below e.0 es i k v sorted.0 found, set_at es i k v w sorted.1 found)
  set_at es i k v w sorted found = cc (tied_itself total k)

  -- an entry that goes
  pub remove_at : (es : List (K × X)) (i : ℕ) (k : K) (v : X) → IsStrictlySortedBy R (keys_of es)
      → slice_get es i ≡ Some (k, v) → remove es i ≡ remove_entry (is_at (R k)) es
  unfolding IsStrictlySortedBy
  remove_at (e ∷ es) (suc i) k v sorted found =
      cc (head_below e.0 es i k v sorted.0 found, remove_at es i k v sorted.1 found)
  remove_at es i k v sorted found = cc (tied_itself total k)

  -- an entry in a gap
  pub insert_at : (es : List (K × X)) (i : ℕ) (k : K) (v : X)
      → ((j : ℕ) (e : K × X) → j < i → slice_get es j ≡ Some e → R k e.0 ≡ Greater)
      → ((e : K × X) → slice_get es i ≡ Some e → R k e.0 ≡ Less) → insert es i (k, v) ≡ insert_entry R es k v
  insert_at [] zero k v before at = refl
  insert_at [] (suc i) k v before at = refl
  insert_at (e ∷ es) zero k v before at = cc (at e refl)
  insert_at (e ∷ es) (suc i) k v before at =
      let rest = insert_at es i k v (λ j f lt found. before (suc j) f (omega arith) found) at in
      cc (before zero e (omega arith) refl, rest)

  -- what is put is found
  pub found_put : (es : List (K × X)) (k : K) (v : X) → lookup (is_at (R k)) (insert_entry R es k v) ≡ Some v
  found_put [] k v = cc (tied_itself total k)
  found_put (e ∷ es) k v = grind (arith, tied_itself total k, found_put es k v)

  -- the second of two values stays
  pub put_twice : (es : List (K × X)) (k : K) (u v : X) → insert_entry R (insert_entry R es k u) k v ≡ insert_entry R es k v
  put_twice [] k u v = cc (tied_itself total k)
  put_twice (e ∷ es) k u v = grind (arith, tied_itself total k, put_twice es k u v)

  -- a value that was put goes as the one before it
  pub remove_put : (es : List (K × X)) (k : K) (v : X) → IsStrictlySortedBy R (keys_of es)
      → remove_entry (is_at (R k)) (insert_entry R es k v) ≡ remove_entry (is_at (R k)) es
  remove_put [] k v sorted = cc (tied_itself total k)
  remove_put (e ∷ es) k v sorted =
      let low : R k e.0 ≡ Less → remove_entry (is_at (R k)) (e ∷ es) ≡ e ∷ es =
      λ less. gone_none (is_at (R k)) (e ∷ es)
      (lookup-none (is_at (R k)) (e ∷ es) (none_below_head total k e es sorted less)) in
      grind (arith, low, tied_itself total k, remove_put es k v (sorted_tail R e.0 (keys_of es) sorted))
