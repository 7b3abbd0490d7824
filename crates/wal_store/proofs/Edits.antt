-- Lists that are changed at a place.
use Rattle.wal_store.proofs.Common.{◌≡◌, ℕ, zero, suc, ◌+◌, ◌≤◌, Some, List, [], ◌∷◌, ◌++◌, map, length, take, drop, slice_get, slice_set, sym, ap, ◌∙◌, arith, AllByRecursion, sum_by, map-append, take-map, drop-map, length-append, sum_by-set, sum_by-insert, sum_by-remove, get_or-le-sum_by, slice_get_within, get_or_from_slice_get}
use Rattle.std.specs.List.{insert, remove}
use Rattle.std.proofs.lemmas.List.{length-take, length-drop}

module _ {X Y : Type 0} (f : X → Y) where
  pub map-insert : (xs : List X) (i : ℕ) (x : X) → map f (insert xs i x) ≡ insert (map f xs) i (f x)
  map-insert xs i x = map-append f (take i xs) (x ∷ drop i xs) ∙ (λ j. sym (take-map f i xs) j ++ f x ∷ sym (drop-map f i xs) j)

  pub map-remove : (xs : List X) (i : ℕ) → map f (remove xs i) ≡ remove (map f xs) i
  map-remove xs i = map-append f (take i xs) (drop (suc i) xs) ∙ (λ j. sym (take-map f i xs) j ++ sym (drop-map f (suc i) xs) j)

-- at a place beyond the end it goes to the end
pub length-insert : {X : Type 0} (xs : List X) (i : ℕ) (x : X) → length (insert xs i x) ≡ length xs + 1
length-insert xs i x = omega (arith, length-append (take i xs) (x ∷ drop i xs), length-take i xs, length-drop i xs)

-- a sum over a list, where one element comes, goes or stands in place of another
module _ {X : Type 0} (F : List X → ℕ) (f : X → ℕ) (is : (xs : List X) → F xs ≡ sum_by f xs) (xs : List X) (i : ℕ) where
  pub sum-insert : (x : X) → F (insert xs i x) ≡ F xs + f x
  sum-insert x = omega (arith, is (insert xs i x), is xs, sum_by-insert f xs i x)

  pub sum-set : (x : X) → slice_get xs i ≡ Some x → (y : X) → F (slice_set xs i y) + f x ≡ F xs + f y
  sum-set x found y =
      let at = ap f (get_or_from_slice_get xs i x x found) in
      omega (arith, is (slice_set xs i y), is xs, sum_by-set f xs i y x (slice_get_within xs i x found), at)

  pub sum-remove : (x : X) → slice_get xs i ≡ Some x → F (remove xs i) + f x ≡ F xs
  sum-remove x found =
      let at = ap f (get_or_from_slice_get xs i x x found) in
      omega (arith, is (remove xs i), is xs, sum_by-remove f xs i x (slice_get_within xs i x found), at)

  pub sum-within : (x : X) → slice_get xs i ≡ Some x → f x ≤ F xs
  sum-within x found =
      let at = ap f (get_or_from_slice_get xs i x x found) in
      omega (arith, is xs, get_or-le-sum_by f xs i x (slice_get_within xs i x found), at)

-- what holds for all
module _ {X : Type 0} (P : X → Type 0) where
  pub all-at : (xs : List X) (i : ℕ) (x : X) → AllByRecursion P xs → slice_get xs i ≡ Some x → P x
  all-at [] i x all found = cc
  all-at (y ∷ xs) zero x all found = let same : y ≡ x = cc in rw same at all.0
  all-at (y ∷ xs) (suc i) x all found = all-at xs i x all.1 found

  -- an element that is changed, where what held of it before does so afterwards
  pub all-change : (xs : List X) (i : ℕ) (x y : X) → AllByRecursion P xs → slice_get xs i ≡ Some x → (P x → P y) → AllByRecursion P (slice_set xs i y)
  all-change [] i x y all found kept = tt
  all-change (z ∷ xs) zero x y all found kept = let same : z ≡ x = cc in (kept (rw same at all.0), all.1)
  all-change (z ∷ xs) (suc i) x y all found kept = (all.0, all-change xs i x y all.1 found kept)

  pub all-insert : (xs : List X) (i : ℕ) (x : X) → AllByRecursion P xs → P x → AllByRecursion P (insert xs i x)
  all-insert (y ∷ xs) (suc i) x all p = (all.0, all-insert xs i x all.1 p)
  all-insert xs zero x all p = (p, all)
  all-insert xs i x all p = (p, tt)

  pub all-remove : (xs : List X) (i : ℕ) → AllByRecursion P xs → AllByRecursion P (remove xs i)
  all-remove (x ∷ xs) (suc i) all = (all.0, all-remove xs i all.1)
  all-remove xs zero all = assumption
  all-remove [] i all = tt
