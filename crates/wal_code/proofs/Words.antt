-- What holds over a field, read at the field of words: coefficients, sums and products of differences.
use Rattle.wal_code.proofs.Common.{◌≡◌, ◌≢◌, ◌∙◌, sym, ap, ap₂, ℕ, ◌+◌, ◌<◌, List, [], ◌∷◌, length, get_or, take, drop, refl, arith, lit<, Bool, cond, eqb, bit_xor, AllByRecursion, IsWord, times, inverse, Element, words, element_of, elements_of, element_of-word, element-path, Distinct, factor, coefficient, product_of_others, product_of_all}
use Rattle.wal_gf.proofs.Lagrange as lagrange
use Rattle.wal_code.proofs.Differences.{product_of_others-split}
use Rattle.wal_code.proofs.Points.{apart, point_at}
use Rattle.wal_code.proofs.Fractions.{difference, others, others-own, coefficient-fraction}

number-cond : (b : Bool) (e f : Element) → (cond b e f).0 ≡ cond b e.0 f.0
number-cond b e f = grind arith

-- the number of an element that is given by a number below 65536
read : (P : ℕ → ℕ) (n : ℕ) → n < 65536 → P (element_of n).0 ≡ P n
read P n h = ap P (element_of-word n h)

pub others-number : (known : List ℕ) → AllByRecursion IsWord known → (p w : Element) →
    (others words (elements_of known) p w).0 ≡ product_of_others known p.0 w.0
unfolding others difference product_of_others words
others-number [] h p w = refl
others-number (q ∷ known) h p w =
    ap₂ (λ (s t : ℕ). times s t)
    (number-cond (eqb p.0 (element_of q).0) (1, lit< tt) (words.plus w (element_of q)) ∙
    read (λ n. cond (eqb p.0 n) 1 (bit_xor w.0 n)) q h.0)
    (others-number known h.1 p w)

pub coefficient-number : (known : List ℕ) → AllByRecursion IsWord known → (p w : Element) →
    (lagrange.coefficient words (elements_of known) p w).0 ≡ coefficient known p.0 w.0
unfolding lagrange.coefficient lagrange.factor coefficient factor words
coefficient-number [] h p w = refl
coefficient-number (q ∷ known) h p w =
    ap₂ (λ (s t : ℕ). times s t)
    (number-cond (eqb p.0 (element_of q).0) (1, lit< tt)
    (words.times (words.plus w (element_of q)) (words.inverse (words.plus p (element_of q)))) ∙
    read (λ n. cond (eqb p.0 n) 1 (times (bit_xor w.0 n) (inverse (bit_xor p.0 n)))) q h.0)
    (coefficient-number known h.1 p w)

unit_other : words.unit ≢ words.nothing
unfolding words
unit_other e = let same : ◌≡◌ {A = ℕ} 1 0 = ap (λ (x : Element). x.0) e in omega arith

-- the product of a point's differences from the others is not 0
pub product_of_others-own : (known : List ℕ) (p : ℕ) → AllByRecursion IsWord known → p < 65536 → product_of_others known p p ≢ 0
unfolding words
product_of_others-own known p h l e =
    others-own words unit_other (elements_of known) (p, l)
    (element-path _ _ (others-number known h (p, l) (p, l) ∙ e))

-- a coefficient as a fraction
pub coefficient-quotient : (known : List ℕ) (p w : ℕ) → AllByRecursion IsWord known → p < 65536 → w < 65536 →
    coefficient known p w ≡ times (product_of_others known p w) (inverse (product_of_others known p p))
unfolding words
coefficient-quotient known p w h l m =
    sym (coefficient-number known h (p, l) (w, m)) ∙
    ap (λ (x : Element). x.0) (coefficient-fraction words unit_other (elements_of known) (p, l) (w, m)) ∙
    ap₂ (λ (s t : ℕ). times s (inverse t)) (others-number known h (p, l) (w, m)) (others-number known h (p, l) (p, l))

-- the weight of a place, from the products over the points before it and after it and from its scale
pub weight : (known : List ℕ) (i w before after scale : ℕ) → Distinct known → AllByRecursion IsWord known → w < 65536 →
    i < length known → before ≡ product_of_all (take i known) w → after ≡ product_of_all (drop (i + 1) known) w →
    scale ≡ inverse (product_of_others known (get_or known i 0) (get_or known i 0)) →
    times (times before after) scale ≡ coefficient known (get_or known i 0) w
weight known i w before after scale d h m l b a s =
    ap₂ (λ (x y : ℕ). times x y) (ap₂ (λ (x y : ℕ). times x y) b a ∙ sym (product_of_others-split known i w (apart known d) m l)) s ∙
    sym (coefficient-quotient known (get_or known i 0) w h (point_at IsWord known h i l) m)
