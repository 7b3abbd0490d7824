-- The laws of the locator: its roots are the missing points, what one point brings to it, its degree, and how many points are missing.
use Rattle.wal_erasure.proofs.Common.{◌≡◌, ◌≢◌, ℕ, zero, suc, ◌+◌, ◌<◌, ◌≤◌, List, [], ◌∷◌, length, slice_index, Bool, true, false, cond, eq-eqb, bit_xor, refl, sym, ap, ap₂, ◌∙◌, arith, lit<, zero-add, inl, inr, xor_self, ne_eqb, times, IsPolynomial, IsPolynomial-constant, IsPolynomial-line, times-lt, zero-times, times_left_comm, Element, words, element_of, xor-lt, Distinct, function, IsPoint, is_known, locator, add-one, both_ways, cases_Bool, cases_eq, cond_both, false_from_ne_true, lt-ltb, ltb}
use Rattle.wal_erasure.proofs.Numbers.{plus-number, times-number, own-number, product-other, sum-other}

-- ---- which points are known

pub is_known-first : (q x : ℕ) (known : List ℕ) → q ≡ x → is_known (q ∷ known) x ≡ true
unfolding is_known
is_known-first q x known e = ap (λ (b : Bool). cond b true (is_known known x)) (eq-eqb q x e)

pub is_known-rest : (q x : ℕ) (known : List ℕ) → q ≢ x → is_known (q ∷ known) x ≡ is_known known x
unfolding is_known
is_known-rest q x known other = ap (λ (b : Bool). cond b true (is_known known x)) (ne_eqb q x other)

pub is_known-at : (known : List ℕ) (k : ℕ) → k < length known → is_known known (slice_index known k) ≡ true
unfolding is_known
is_known-at [] k below = absurd (omega arith)
is_known-at (q ∷ known) zero below = rw (eq-eqb q q refl)
is_known-at (q ∷ known) (suc k) below = grind (arith, is_known-at known k (omega arith))

pub is_known-found : (known : List ℕ) (x : ℕ) → is_known known x ≡ true → (k : ℕ) × (k < length known) × (slice_index known k ≡ x)
unfolding is_known
is_known-found [] x e = absurd cc
is_known-found (q ∷ known) x e =
    elim (cases_eq q x) [
      | inl same ↦ (0, omega arith, same)
      | inr other ↦ let found = is_known-found known x (sym (is_known-rest q x known other) ∙ e) in (suc found.0, omega (arith, found.1), found.2)
    ]

pub is_known-apart : (known : List ℕ) (x : ℕ) → is_known known x ≡ false → (k : ℕ) → k < length known → slice_index known k ≢ x
is_known-apart known x e k below same = both_ways _ e (sym (ap (is_known known) same) ∙ is_known-at known k below)

fresh : (q : ℕ) (known : List ℕ) → Distinct (q ∷ known) → is_known known q ≡ false
fresh q known distinct =
    false_from_ne_true (is_known known q)
    (λ e. let found = is_known-found known q e in distinct 0 (suc found.0) 0 (omega arith) (omega (arith, found.1)) (sym found.2))

-- ---- locators

pub locator-lt : (known : List ℕ) (n x : ℕ) → locator known n x < 65536
unfolding locator
locator-lt known zero x = lit< tt
locator-lt known (suc n) x =
    let l = locator-lt known n x in
    cond_both (is_known known n) _ _ (λ s. s < 65536) (λ _. l) (λ _. times-lt (bit_xor x n) (locator known n x) l)

pub locator-start : (known : List ℕ) (x : ℕ) → locator known 0 x ≡ 1
unfolding locator
locator-start known x = refl

-- at a known point nothing is multiplied, at a missing one the difference from it
pub locator-more : (known : List ℕ) (n x : ℕ) {b : Bool} → is_known known n ≡ b
    → locator known (suc n) x ≡ cond b (locator known n x) (times (bit_xor x n) (locator known n x))
unfolding locator
locator-more known n x e = rw e

-- lists with the same tests have the same locator
pub locator-same : (known other : List ℕ) (n x : ℕ) → ((q : ℕ) → q < n → is_known known q ≡ is_known other q) → locator known n x ≡ locator other n x
unfolding locator
locator-same known other zero x same = refl
locator-same known other (suc n) x same =
    ap₂ (λ (b : Bool) (s : ℕ). cond b s (times (bit_xor x n) s)) (same n (omega arith)) (locator-same known other n x (λ q l. same q (omega arith)))

-- at a known point, that over the others is that over all
pub locator-own : (known : List ℕ) (n x : ℕ) → is_known known x ≡ true → locator (x ∷ known) n x ≡ locator known n x
unfolding is_known
locator-own known n x e = locator-same (x ∷ known) known n x (λ q l. grind (arith, e))

-- what a missing point brings
pulled : (known : List ℕ) (n e x : ℕ) → n ≤ 65536 → e < 65536 → x < 65536 → is_known known e ≡ false
    → locator known n x ≡ cond (ltb e n) (times (bit_xor x e) (locator (e ∷ known) n x)) (locator (e ∷ known) n x)
unfolding locator is_known
pulled known zero e x far near low missing = grind arith
pulled known (suc n) e x far near low missing =
    let before = pulled known n e x (omega arith) near low missing in
    let swap = times_left_comm (bit_xor x n) (bit_xor x e) (locator (e ∷ known) n x) (xor-lt x n low (omega arith)) (xor-lt x e low near)
    (locator-lt (e ∷ known) n x) in
    grind (arith, before, swap)

pub locator-pulled : (known : List ℕ) (n e x : ℕ) → n ≤ 65536 → e < n → x < 65536 → is_known known e ≡ false
    → locator known n x ≡ times (bit_xor x e) (locator (e ∷ known) n x)
locator-pulled known n e x far below low missing = rw (lt-ltb e n below) at (pulled known n e x far (omega arith) low missing)

-- missing points are roots
pub locator-root : (known : List ℕ) (n x : ℕ) → n ≤ 65536 → x < n → is_known known x ≡ false → locator known n x ≡ 0
locator-root known n x far below missing =
    locator-pulled known n x x far below (omega arith) missing
    ∙ ap (λ (s : ℕ). times s (locator (x ∷ known) n x)) (xor_self x) ∙ zero-times (locator (x ∷ known) n x)

-- known ones are not
pub locator-other : (known : List ℕ) (n x : ℕ) → n ≤ 65536 → x < 65536 → is_known known x ≡ true → locator known n x ≢ 0
locator-other known zero x far low e none = absurd (omega (arith, locator-start known x, none))
locator-other known (suc n) x far low e none =
    let before = locator-other known n x (omega arith) low e in
    elim (cases_Bool (is_known known n)) [
      | inl taken ↦ before (sym (locator-more known n x taken) ∙ none)
      | inr free ↦
          product-other (bit_xor x n) (locator known n x) (xor-lt x n low (omega arith)) (locator-lt known n x)
          (sum-other x n (λ same. both_ways _ free (sym (ap (is_known known) same) ∙ e))) before
          (sym (locator-more known n x free) ∙ none)
    ]

-- one more place of the product over the others
pub product_step : (known : List ℕ) (n x p : ℕ) {b : Bool} → is_known (x ∷ known) n ≡ b → p ≡ locator (x ∷ known) n x
    → cond b p (times (bit_xor x n) p) ≡ locator (x ∷ known) (n + 1) x
product_step known n x p e h = rw (h, add-one) (sym (locator-more (x ∷ known) n x e))

-- ---- how many points are missing

unfoldable pub missing_count : List ℕ → ℕ → ℕ
missing_count known zero = 0
missing_count known (suc n) = cond (is_known known n) (missing_count known n) (suc (missing_count known n))

count-more : (known : List ℕ) (n : ℕ) {b : Bool} → is_known known n ≡ b
    → missing_count known (suc n) ≡ cond b (missing_count known n) (suc (missing_count known n))
unfolding missing_count
count-more known n e = rw e

count-none : (n : ℕ) → missing_count [] n ≡ n
unfolding missing_count is_known
count-none zero = refl
count-none (suc n) = ap suc (count-none n)

one_known : (known : List ℕ) (n e : ℕ) → is_known known e ≡ false → missing_count known n ≡ cond (ltb e n) 1 0 + missing_count (e ∷ known) n
unfolding missing_count is_known
one_known known zero e missing = grind arith
one_known known (suc n) e missing = grind (arith, one_known known n e missing)

-- one more known point is one missing point less
pub count-suc : (known : List ℕ) (n e : ℕ) → e < n → is_known known e ≡ false → missing_count known n ≡ suc (missing_count (e ∷ known) n)
count-suc known n e below missing = let more = rw (lt-ltb e n below) at (one_known known n e missing) in omega arith

-- known and missing points are all
pub counted : (known : List ℕ) (n : ℕ) → Distinct known → ((k : ℕ) → k < length known → slice_index known k < n) → length known + missing_count known n ≡ n
counted [] n distinct below = zero-add (missing_count [] n) ∙ count-none n
counted (q ∷ known) n distinct below =
    let rest : Distinct known = λ i j d l m. distinct (suc i) (suc j) d (omega arith) (omega arith) in
    let before = counted known n rest (λ k l. below (suc k) (omega arith)) in
    let less = count-suc known n q (below 0 (omega arith)) (fresh q known distinct) in
    omega (arith, before, less)

-- ---- the degree

locator_line : (known : List ℕ) (n : ℕ) (x : Element) → n < 65536 → is_known known n ≡ false
    → words.times (words.plus x (element_of n)) (function (locator known n) x) ≡ function (locator known (suc n)) x
locator_line known n x low free =
    let l : locator known n x.0 < 65536 = locator-lt known n x.0 in
    ap (λ (y : Element). words.times (words.plus y (element_of n)) (function (locator known n) x)) (own-number x)
    ∙ ap (λ (y : Element). words.times y (function (locator known n) x)) (plus-number x.0 n x.1 low)
    ∙ times-number (bit_xor x.0 n) (locator known n x.0) (xor-lt x.0 n x.1 low) l
    ∙ ap element_of (sym (locator-more known n x.0 free))

-- it has one coefficient more than there are missing points
pub locator-polynomial : (known : List ℕ) (n : ℕ) → n ≤ 65536 → IsPolynomial words (suc (missing_count known n)) IsPoint (function (locator known n))
locator-polynomial known zero far =
    let p = IsPolynomial-constant words (missing_count known 0) IsPoint (element_of 1) in
    (p.0, p.1, λ x point. p.2 x point ∙ ap element_of (sym (locator-start known x.0)))
locator-polynomial known (suc n) far =
    let before = locator-polynomial known n (omega arith) in
    elim (cases_Bool (is_known known n)) [
      | inl taken ↦ (
        before.0,
        omega (arith, before.1, count-more known n taken),
        λ x point. before.2 x point ∙ ap element_of (sym (locator-more known n x.0 taken)),
      )
      | inr free ↦
          let p = IsPolynomial-line words (suc (missing_count known n)) IsPoint (function (locator known n))
          (element_of n) before in (
            p.0,
            omega (arith, p.1, count-more known n free),
            λ x point. p.2 x point ∙ locator_line known n x (omega arith) free,
          )
    ]
