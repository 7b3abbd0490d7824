-- The coefficients give a polynomial's values, and any values at distinct points are those of a polynomial.
use Rattle.wal_code.proofs.Common.{◌≡◌, ◌≢◌, ◌∙◌, sym, ap, subst, ℕ, zero, suc, ◌<◌, List, [], ◌∷◌, length, get_or, refl, arith, eqb, cond, eq-eqb, inl, inr, All, AllByRecursion, ne_eqb, length-map, recursion_from_All, All-from_recursion, IsWord, times, xor_below, evaluate, value, Apart, IsPolynomial, through, through-polynomial, through-known, Among, interpolation, Element, words, element_of, elements_of, numbers_of, numbers_of-elements, numbers_of-words, element_of-word, value-evaluate, Distinct, PassesThrough, coefficient, combination, Interpolates}
use Rattle.wal_gf.proofs.Sums.{sum_over}
use Rattle.wal_gf.proofs.Lagrange as lagrange
use Rattle.wal_gf.proofs.Roots as roots
use Rattle.wal_code.proofs.Points.{apart, point_at}
use Rattle.wal_code.proofs.Totals.{xor_below-first, xor_below-same}
use Rattle.wal_code.proofs.Words.{coefficient-number}

-- the points as elements

everywhere : (ps : List Element) → AllByRecursion (λ x. Unit {0}) ps
everywhere [] = tt
everywhere (p ∷ ps) = (tt, everywhere ps)

among : (known : List ℕ) (i : ℕ) → i < length known → Among (element_of (get_or known i 0)) (elements_of known)
unfolding Among
among [] i l = absurd (omega arith)
among (q ∷ known) zero l = inl refl
among (q ∷ known) (suc i) l = inr (among known i (omega arith))

-- sums and values as numbers

sum-number : (known : List ℕ) (f : Element → Element) →
    (sum_over words (elements_of known) f).0 ≡ xor_below (length known) (λ i. (f (element_of (get_or known i 0))).0)
unfolding sum_over words xor_below
sum-number [] f = refl
sum-number (q ∷ known) f =
    rw (sum-number known f) (sym (xor_below-first (length known) (λ i. (f (element_of (get_or (q ∷ known) i 0))).0)))

-- the combination of equal values is the same
pub combination-same : (known : List ℕ) (w : ℕ) (f g : ℕ → ℕ) → ((i : ℕ) → i < length known → f i ≡ g i) →
    combination known f w ≡ combination known g w
combination-same known w f g h =
    xor_below-same (length known) (λ i. times (coefficient known (get_or known i 0) w) (f i))
    (λ i. times (coefficient known (get_or known i 0) w) (g i)) (λ i l. rw (h i l))

through-number : (known : List ℕ) (f : Element → Element) (w : Element) → AllByRecursion IsWord known →
    (through words (elements_of known) f w).0 ≡ combination known (λ i. (f (element_of (get_or known i 0))).0) w.0
unfolding through words
through-number known f w h =
    sum-number known (λ p. words.times (lagrange.coefficient words (elements_of known) p w) (f p)) ∙
    xor_below-same (length known)
    (λ i. times (lagrange.coefficient words (elements_of known) (element_of (get_or known i 0)) w).0 (f (element_of (get_or known i 0))).0)
    (λ i. times (coefficient known (get_or known i 0) w.0) (f (element_of (get_or known i 0))).0)
    (λ i l.
    ap (λ (s : ℕ). times s (f (element_of (get_or known i 0))).0)
    (coefficient-number known h (element_of (get_or known i 0)) w ∙
    ap (λ (s : ℕ). coefficient known s w.0) (element_of-word (get_or known i 0) (point_at IsWord known h i l))))

pub evaluate-number : (cs : List ℕ) (x : Element) → AllByRecursion IsWord cs → (value words (elements_of cs) x).0 ≡ evaluate cs x.0
evaluate-number cs x h =
    value-evaluate (elements_of cs) x ∙ ap (λ (s : List ℕ). evaluate s x.0) (numbers_of-elements cs h)

pub evaluate-lt : (cs : List ℕ) (x : ℕ) → All IsWord cs → x < 65536 → evaluate cs x < 65536
evaluate-lt cs x h l =
    subst (λ (n : ℕ). n < 65536) (evaluate-number cs (x, l) (recursion_from_All IsWord cs h)) (value words (elements_of cs) (x, l)).1

-- Each polynomial's value at w is the combination of its values at the known points.
pub interpolates : (known : List ℕ) (w : ℕ) → Distinct known → AllByRecursion IsWord known → w < 65536 → Interpolates known w
interpolates known w d h m cs few ws =
    let es : List Element = elements_of cs in
    let byRec : AllByRecursion IsWord cs = recursion_from_All IsWord cs ws in
    sym (evaluate-number cs (w, m) byRec) ∙
    ap (λ (x : Element). x.0)
    (interpolation words (λ x. Unit {0}) (elements_of known) (value words es) (roots.apart known h d)
    (everywhere (elements_of known))
    (es, omega (arith, length-map cs element_of, length-map known element_of, few), λ x p. refl) (w, m) tt) ∙
    through-number known (value words es) (w, m) h ∙
    combination-same known w (λ i. (value words es (element_of (get_or known i 0))).0)
    (λ i. evaluate cs (get_or known i 0))
    (λ i l.
    evaluate-number cs (element_of (get_or known i 0)) byRec ∙
    ap (evaluate cs) (element_of-word (get_or known i 0) (point_at IsWord known h i l)))

-- the value that stands at the place of p, or 0 where p is no known point
unfoldable pub value_at : List ℕ → List ℕ → ℕ → ℕ
value_at [] values p = 0
value_at (q ∷ known) [] p = 0
value_at (q ∷ known) (v ∷ values) p = cond (eqb p q) v (value_at known values p)

value_at-place : (known values : List ℕ) → Apart known → length values ≡ length known → (i : ℕ) → i < length known →
    value_at known values (get_or known i 0) ≡ get_or values i 0
unfolding value_at Apart
value_at-place (q ∷ known) (v ∷ values) d e zero l = rw (eq-eqb q q refl)
value_at-place (q ∷ known) (v ∷ values) d e (suc i) l =
    rw (ne_eqb (get_or known i 0) q (λ f. point_at (λ p. q ≢ p) known d.0 i (omega arith) (sym f)))
    (value_at-place known values d.1 (omega arith) i (omega arith))
value_at-place _ _ d e i l = absurd (omega arith)

-- Any words at distinct points are the values of a polynomial, and it has the combination of them at each other point.
pub solution : (known values : List ℕ) → Distinct known → AllByRecursion IsWord known → AllByRecursion IsWord values →
    length values ≡ length known →
    (cs : List ℕ) × PassesThrough known values cs × ((w : ℕ) → w < 65536 → evaluate cs w ≡ combination known (λ i. get_or values i 0) w)
solution known values d h v e =
    let f : Element → Element = λ x. element_of (value_at known values x.0) in
    let p : IsPolynomial words (length (elements_of known)) (λ x. Unit {0}) (through words (elements_of known) f) =
    through-polynomial words (λ x. Unit {0}) (elements_of known) f in
    let at : (i : ℕ) → i < length known → (f (element_of (get_or known i 0))).0 ≡ get_or values i 0 =
    λ i l.
    ap (λ (s : ℕ). (element_of (value_at known values s)).0) (element_of-word (get_or known i 0) (point_at IsWord known h i l)) ∙
    ap (λ (s : ℕ). (element_of s).0) (value_at-place known values (apart known d) e i l) ∙
    element_of-word (get_or values i 0) (point_at IsWord values v i (omega arith)) in (
      numbers_of p.0,
      record {
        few = omega (arith, length-map p.0 (λ (x : Element). x.0), length-map known element_of, p.1);
        words = All-from_recursion IsWord (numbers_of p.0) (numbers_of-words p.0);
        there = λ i l.
            ap (evaluate (numbers_of p.0)) (sym (element_of-word (get_or known i 0) (point_at IsWord known h i l))) ∙
            sym (value-evaluate p.0 (element_of (get_or known i 0))) ∙
            ap (λ (x : Element). x.0)
            (p.2 (element_of (get_or known i 0)) tt ∙
            through-known words (elements_of known) f (roots.apart known h d) (element_of (get_or known i 0))
            (among known i l)) ∙
            at i l;
      },
      λ w m.
          sym (value-evaluate p.0 (w, m)) ∙ ap (λ (x : Element). x.0) (p.2 (w, m) tt) ∙ through-number known f (w, m) h ∙
          combination-same known w (λ i. (f (element_of (get_or known i 0))).0) (λ i. get_or values i 0) at,
    )
