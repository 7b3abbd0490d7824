-- What holds of each element of a list.
use Rattle.wal_challenge.proofs.Common.{◌≡◌, ℕ, ◌-◌, ◌<◌, List, [], ◌∷◌, ◌++◌, length, get_or, slice_get, Some, refl, sym, ap, ◌∙◌, arith, ⊎_elim, length-append, cases_lt, ext_get_or, get_or_append_left, get_or-append_right, get_or_from_slice_get, slice_get-get_or, slice_get_within}

-- one element more
pub each_more : {A : Type 0} (P : ℕ → A → Type 0) (xs : List A) (y : A) → ((k : ℕ) (x : A) → slice_get xs k ≡ Some x → P k x) → P (length xs) y
    → (k : ℕ) (x : A) → slice_get (xs ++ y ∷ []) k ≡ Some x → P k x
each_more P xs y each last k x there =
    let value : get_or (xs ++ y ∷ []) k y ≡ x = get_or_from_slice_get (xs ++ y ∷ []) k x y there in
    let inside : k < length (xs ++ y ∷ []) = slice_get_within (xs ++ y ∷ []) k x there in
    ⊎_elim
    (λ before.
    let same : get_or xs k y ≡ x = sym (get_or_append_left xs (y ∷ []) y k before) ∙ value in
    each k x (slice_get-get_or xs k y before ∙ ap Some same))
    (λ past.
    let at : length xs ≡ k = omega (arith, length-append xs (y ∷ []), inside, past) in
    let none : k - length xs ≡ 0 = omega (arith, at) in
    let same : y ≡ x = sym (get_or-append_right xs (y ∷ []) (length xs) k y refl past ∙ ap (λ n. get_or (y ∷ []) n y) none) ∙ value in
    rw (← at, ← same) last)
    (cases_lt k (length xs))

-- lists of one length whose elements are those that one fact allows
pub one_list : {A : Type 0} (P : ℕ → A → Type 0) (xs ys : List A) → length xs ≡ length ys → ((k : ℕ) (x y : A) → P k x → P k y → x ≡ y)
    → ((k : ℕ) (x : A) → slice_get xs k ≡ Some x → P k x) → ((k : ℕ) (y : A) → slice_get ys k ≡ Some y → P k y) → xs ≡ ys
one_list P [] [] long one of_xs of_ys = refl
one_list P (x ∷ xs) (y ∷ ys) long one of_xs of_ys =
    ext_get_or x (x ∷ xs) (y ∷ ys) long
    (λ k l.
    one k (get_or (x ∷ xs) k x) (get_or (y ∷ ys) k x) (of_xs k (get_or (x ∷ xs) k x) (slice_get-get_or (x ∷ xs) k x l))
    (of_ys k (get_or (y ∷ ys) k x) (slice_get-get_or (y ∷ ys) k x (omega (arith, long, l)))))
one_list P xs ys long one of_xs of_ys = absurd (omega (arith, long))
