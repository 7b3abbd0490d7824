use Rattle.wal_gf.proofs.Common.{◌≡◌, ◌≢◌, ℕ, ◌<◌, List, [], ◌∷◌, length, get_or, All, AllPairs, subst, sym, ap, ◌∙◌, arith, lit<, bit_xor, below_more, xor_self, xor_zero_r, xor_lt, get_or_default, recursion_from_All, All-cons, All-nil, IsWord, times, evaluate, words_of, HasValues, IsOnlyWithValues, with_zeros, Gf}
use Rattle.wal_gf.proofs.Additive.{xor_back}
use Rattle.wal_gf.proofs.Products.{times-zero, zero-times}
use Rattle.wal_gf.proofs.Inverses.{zero_factor}
use Rattle.wal_gf.proofs.Elements.{zero_element, number_at, length-words_of}
use Rattle.wal_gf.proofs.Coefficients.{evaluate-lt, evaluate-one, evaluate-more_zeros, length-with_zeros, with_zeros-words}
use Rattle.wal_gf.proofs.Roots.{same_coefficients}
use Rattle.wal_gf.proofs.polynomial.Poly.interpolate.Goals as goal

-- ---- the start: no point, and the polynomial 1

one_rootless : (ns : List ℕ) (x : ℕ) → ns ≡ 1 ∷ [] → evaluate ns x ≢ 0
one_rootless ns x one none = let is : evaluate ns x ≡ 1 = ap (λ (s : List ℕ). evaluate s x) one ∙ evaluate-one 1 x in omega arith

pub loop-i-init : goal.loop-i-init
loop-i-init c = record {
  points = λ j below. absurd (omega arith);
  words = rw c.new.ensures.items (All-nil IsWord);
  vanishing_words = rw c.in_ok-vanishing.ensures (All-cons IsWord 1 [] (lit< tt) (All-nil IsWord));
  size = ap (λ (s : List Gf). length (words_of s)) c.new.ensures.items;
  vanishing_size = ap (λ (s : List ℕ). length s) c.in_ok-vanishing.ensures;
  values = λ j below. absurd (omega arith);
  roots = λ j below. absurd (omega arith);
  others = λ x low apart. one_rootless c.in_ok-vanishing.vanishing x c.in_ok-vanishing.ensures;
}

-- ---- a turn

pub slope_at-slope-requires : goal.slope_at-slope-requires
slope_at-slope-requires c low =
    c.loop-i.invariant.others (get_or c.args.points.now c.loop-i.i zero_element).0 low
    (λ j below same. c.requires.distinct j c.loop-i.i 0 below (omega (arith, length-words_of c.args.points.now))
    (sym same ∙ sym (number_at c.args.points.now c.loop-i.i)))

value_kept : (found new vanishing : List ℕ) (s x v : ℕ) → evaluate new x ≡ bit_xor (evaluate found x) (times s (evaluate vanishing x))
    → evaluate found x ≡ v → evaluate vanishing x ≡ 0 → evaluate new x ≡ v
value_kept found new vanishing s x v added before root = cc (times-zero s, xor_zero_r v)

root_kept : (new old : List ℕ) (x p : ℕ) → evaluate new x ≡ times (bit_xor x p) (evaluate old x) → evaluate old x ≡ 0 → evaluate new x ≡ 0
root_kept new old x p is root = is ∙ ap (times (bit_xor x p)) root ∙ times-zero (bit_xor x p)

root_here : (new old : List ℕ) (x p : ℕ) → evaluate new x ≡ times (bit_xor x p) (evaluate old x) → x ≡ p → evaluate new x ≡ 0
root_here new old x p is same = cc (xor_self p, zero-times (evaluate old x))

no_root : (new old : List ℕ) (x p : ℕ) → evaluate new x ≡ times (bit_xor x p) (evaluate old x) → All IsWord old → IsWord x → IsWord p
    → x ≢ p → evaluate old x ≢ 0 → evaluate new x ≢ 0
no_root new old x p is lows low low' other before root =
    before (zero_factor (bit_xor x p) (evaluate old x) (xor_lt 16 x p low low') (evaluate-lt old x (recursion_from_All IsWord old lows))
    (λ none. other (sym (xor_zero_r x) ∙ ap (bit_xor x) (sym none) ∙ xor_back x p))
    (sym is ∙ root))

pub loop-i-preserved : goal.loop-i-preserved
loop-i-preserved c =
    let i : ℕ = c.loop-i.i in
    let point : ℕ = (get_or c.args.points.now i zero_element).0 in
    let here : get_or (words_of c.args.points.now) i 0 ≡ point = number_at c.args.points.now i in
    let word : IsWord (get_or (words_of c.args.points.now) i 0) = omega (arith, here, c.slope_at-slope.ensures.word) in
    record {
      points = below_more (λ j. IsWord (get_or (words_of c.args.points.now) j 0)) i c.loop-i.invariant.points word;
      words = c.in_ok-add_multiple.ensures.words;
      vanishing_words = c.in_ok-vanishing-2.ensures.words;
      size = omega (arith, c.in_ok-add_multiple.ensures.size);
      vanishing_size = omega (arith, c.in_ok-vanishing-2.ensures.size);
      values =
          below_more (λ j. evaluate c.add_multiple.new.self (get_or (words_of c.args.points.now) j 0) ≡ get_or (words_of c.args.values.now) j 0) i
          (λ j below. value_kept c.loop-i.found c.add_multiple.new.self c.loop-i.vanishing c.slope_at-slope.result.0 _ _
          (c.in_ok-add_multiple.ensures.value _) (c.loop-i.invariant.values j below) (c.loop-i.invariant.roots j below))
          (ap (evaluate c.add_multiple.new.self) here ∙ c.in_ok-add_multiple.ensures.value point
          ∙ c.slope_at-slope.ensures.reached ∙ sym (number_at c.args.values.now i));
      roots =
          below_more (λ j. evaluate c.in_ok-vanishing-2.vanishing (get_or (words_of c.args.points.now) j 0) ≡ 0) i
          (λ j below. root_kept c.in_ok-vanishing-2.vanishing c.loop-i.vanishing _ point (c.in_ok-vanishing-2.ensures.value _) (c.loop-i.invariant.roots j below))
          (root_here c.in_ok-vanishing-2.vanishing c.loop-i.vanishing _ point (c.in_ok-vanishing-2.ensures.value _) here);
      others = λ x low apart.
          no_root c.in_ok-vanishing-2.vanishing c.loop-i.vanishing x point (c.in_ok-vanishing-2.ensures.value x) c.loop-i.invariant.vanishing_words low
          c.slope_at-slope.ensures.word (λ same. apart i (omega arith) (same ∙ sym here))
          (c.loop-i.invariant.others x low (λ j below. apart j (omega arith)));
    }

-- ---- the only one

words_all : (ns : List ℕ) → ((j : ℕ) → j < length ns → IsWord (get_or ns j 0)) → All IsWord ns
words_all ns lows k d within = let P : ℕ → Type 0 = λ s. IsWord s in subst P (get_or_default ns k 0 d within) (lows k within)

agree : (cs ds ps vs : List ℕ) → HasValues cs ps vs → HasValues ds ps vs → All (λ p. evaluate cs p ≡ evaluate ds p) ps
agree cs ds ps vs has has' k d within = rw (← get_or_default ps k 0 d within) (has k within ∙ sym (has' k within))

only_one : (found ps vs : List ℕ) → length found ≡ length ps → All IsWord found → ((j : ℕ) → j < length ps → IsWord (get_or ps j 0))
    → HasValues found ps vs → AllPairs (λ p q. p ≢ q) ps → IsOnlyWithValues found ps vs
only_one found ps vs size lows points has apart others lows' fits has' =
    same_coefficients (with_zeros (length ps) others) found ps (with_zeros-words (length ps) others lows') lows (words_all ps points)
    (length-with_zeros (length ps) others fits ∙ sym size) (omega (arith, length-with_zeros (length ps) others fits)) apart
    (agree (with_zeros (length ps) others) found ps vs (λ j below. evaluate-more_zeros others _ _ ∙ has' j below) has)

pub returns-clause-only : goal.returns-clause-only
returns-clause-only c =
    let number : length (words_of c.args.points.now) ≡ length c.args.points.now = length-words_of c.args.points.now in
    only_one c.loop-i.found (words_of c.args.points.now) (words_of c.args.values.now) (omega arith) c.loop-i.invariant.words
    (λ j below. c.loop-i.invariant.points j (omega arith)) (λ j below. c.loop-i.invariant.values j (omega arith)) c.requires.distinct
