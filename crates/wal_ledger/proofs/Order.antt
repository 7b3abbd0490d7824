-- A key put at its place in an ascending list.
use Rattle.wal_ledger.proofs.Common.{◌≡◌, ℕ, zero, suc, ◌<◌, ◌≤◌, List, [], ◌∷◌, length, get_or, insert, refl, sym, ap, ◌∙◌, arith, Ordering, Less, Equal, Greater, ordering_reverse, match_ordering, AllByRecursion, insert_key, IsStrictlySortedBy, nat_list_cmp_total, Less-from_sorted, sorted_tail, All-insert_key, All-from_recursion, recursion_from_All, BlobId, id_cmp, Ascends, IsTotalOrder, on_total}

pub ids_total : IsTotalOrder id_cmp
ids_total = on_total (λ (b : BlobId). b.0) nat_list_cmp_total

-- nothing is in order
pub ascends_nil : Ascends []
unfolding IsStrictlySortedBy
ascends_nil = tt

module _ {K : Type 0} {R : K → K → Ordering} (o : IsTotalOrder R) where
  -- the comparison the other way round
  back : (x y : K) (r : Ordering) → R x y ≡ r → R y x ≡ ordering_reverse r
  back x y r h = o.antisymm y x ∙ ap ordering_reverse h

  -- a key and those behind the first one, by how the first one compares
  pub insert_key_by : (x k : K) (xs : List K) (r : Ordering) → R k x ≡ r → insert_key R (x ∷ xs) k ≡ match_ordering r (k ∷ x ∷ xs) (x ∷ xs) (x ∷ insert_key R xs k)
  insert_key_by x k xs r h = ap (λ q. match_ordering q (k ∷ x ∷ xs) (x ∷ xs) (x ∷ insert_key R xs k)) h

  -- a key that is there stays alone
  pub insert_key_found : (ks : List K) (i : ℕ) (k : K) → IsStrictlySortedBy R ks → i < length ks → ((d : K) → R (get_or ks i d) k ≡ Equal) → insert_key R ks k ≡ ks
  insert_key_found [] i k s lt here = absurd (omega arith)
  insert_key_found (x ∷ xs) zero k s lt here = insert_key_by x k xs Equal (back x k Equal (here x))
  insert_key_found (x ∷ xs) (suc i) k s lt here =
      insert_key_by x k xs Greater (sym (o.congr (get_or xs i x) k x (here x)) ∙ back x (get_or xs i x) Less (Less-from_sorted R (x ∷ xs) 0 (suc i) x s (omega arith) lt))
      ∙ ap (λ l. x ∷ l) (insert_key_found xs i k (sorted_tail R x xs s) (omega arith) here)

  -- a new key goes between the smaller and the greater ones
  pub insert_key_gap : (ks : List K) (i : ℕ) (k : K) → i ≤ length ks
      → ((j : ℕ) (d : K) → j < i → R (get_or ks j d) k ≡ Less)
      → ((j : ℕ) (d : K) → i ≤ j → j < length ks → R (get_or ks j d) k ≡ Greater) → insert ks i k ≡ insert_key R ks k
  insert_key_gap [] zero k le below above = refl
  insert_key_gap [] (suc i) k le below above = absurd (omega arith)
  insert_key_gap (x ∷ xs) zero k le below above = sym (insert_key_by x k xs Less (back x k Greater (above 0 x (omega arith) (omega arith))))
  insert_key_gap (x ∷ xs) (suc i) k le below above =
      ap (λ l. x ∷ l) (insert_key_gap xs i k (omega arith) (λ j d lt. below (suc j) d (omega arith)) (λ j d ge lt. above (suc j) d (omega arith) (omega arith)))
      ∙ sym (insert_key_by x k xs Greater (back x k Less (below 0 x (omega arith))))

  -- what is below the first key is below all keys above that one
  pub all_above : (x k : K) (ks : List K) → R k x ≡ Less → AllByRecursion (λ y. R x y ≡ Less) ks → AllByRecursion (λ y. R k y ≡ Less) ks
  all_above x k [] h all = tt
  all_above x k (y ∷ ys) h all = (o.trans k x y h all.0, all_above x k ys h all.1)

  -- and the order stays
  pub insert_key_ascends : (ks : List K) (k : K) → IsStrictlySortedBy R ks → IsStrictlySortedBy R (insert_key R ks k)
  unfolding IsStrictlySortedBy
  insert_key_ascends [] k s = (tt, tt)
  insert_key_ascends (x ∷ xs) k s = by (R k x) refl (insert_key_ascends xs k s.1)
    where
      P : K → Type 0
      P y = R x y ≡ Less

      by : (r : Ordering) → R k x ≡ r → IsStrictlySortedBy R (insert_key R xs k) → IsStrictlySortedBy R (match_ordering r (k ∷ x ∷ xs) (x ∷ xs) (x ∷ insert_key R xs k))
      by Less h rest = ((h, all_above x k xs h s.0), s)
      by Equal h rest = s
      by Greater h rest = (recursion_from_All P _ (All-insert_key R k P xs (All-from_recursion P xs s.0) (back k x Greater h)), rest)

pub id_inserted_ascends : (ids : List BlobId) (id : BlobId) → Ascends ids → Ascends (insert_key id_cmp ids id)
id_inserted_ascends ids id s = insert_key_ascends ids_total ids id s
