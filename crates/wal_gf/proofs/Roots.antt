-- Roots of polynomials with words as coefficients, by the field that the words are.
use Rattle.wal_gf.proofs.Common.{◌≡◌, ◌≢◌, ℕ, suc, ◌≤◌, List, [], ◌∷◌, length, get_or, replicate, refl, lit<, All, AllPairs, sym, ap, ◌∙◌, arith, AllByRecursion, recursion_from_All, All-replicate, length-map, length-replicate, IsWord, evaluate, HasFewRoots}
use Rattle.wal_gf.proofs.Polynomials.{value, Apart, coefficients_unique}
use Rattle.wal_gf.proofs.Coefficients.{evaluate-zeros}
use Rattle.wal_gf.proofs.Instance.{Element, element-path, words, element_of, element_of-word, elements_of, numbers_of, numbers_of-elements, value-evaluate}

others_apart : (n : ℕ) (ns : List ℕ) → IsWord n → AllByRecursion IsWord ns → AllByRecursion (λ m. n ≢ m) ns
    → AllByRecursion (λ s. element_of n ≢ s) (elements_of ns)
others_apart n [] low lows apart = tt
others_apart n (m ∷ ms) low lows apart =
    (λ e. apart.0 (sym (element_of-word n low) ∙ ap (λ (s : Element). s.0) e ∙ element_of-word m lows.0), others_apart n ms low lows.1 apart.1)

-- words that differ in pairs differ in pairs as elements of the field
pub apart : (ns : List ℕ) → AllByRecursion IsWord ns → AllPairs (λ r s. r ≢ s) ns → Apart (elements_of ns)
unfolding Apart
apart [] lows pairs = tt
apart (n ∷ ns) lows pairs = (
  others_apart n ns lows.0 lows.1
      (recursion_from_All (λ m. n ≢ m) ns (λ k d below. pairs 0 (suc k) d (omega arith) (omega arith))),
  apart ns lows.1 (λ i j d before below. pairs (suc i) (suc j) d (omega arith) (omega arith)),
)

-- the value over the field of words
value-at : (cs : List ℕ) (x : ℕ) → AllByRecursion IsWord cs → IsWord x → (value words (elements_of cs) (element_of x)).0 ≡ evaluate cs x
value-at cs x lows low =
    rw (value-evaluate (elements_of cs) (element_of x), numbers_of-elements cs lows, element_of-word x low)

agreed : (cs ds ps : List ℕ) → AllByRecursion IsWord cs → AllByRecursion IsWord ds → AllByRecursion IsWord ps
    → AllByRecursion (λ p. evaluate cs p ≡ evaluate ds p) ps
    → AllByRecursion (λ r. value words (elements_of cs) r ≡ value words (elements_of ds) r) (elements_of ps)
agreed cs ds [] lows lows' lows'' same = tt
agreed cs ds (p ∷ ps) lows lows' lows'' same = (
  element-path _ _ (value-at cs p lows lows''.0 ∙ same.0 ∙ sym (value-at ds p lows' lows''.0)),
  agreed cs ds ps lows lows' lows''.1 same.1,
)

-- two polynomials of one length with words as coefficients are equal where they agree at as many points
pub same_coefficients : (cs ds ps : List ℕ) → All IsWord cs → All IsWord ds → All IsWord ps → length cs ≡ length ds
    → length cs ≤ length ps
    → AllPairs (λ p q. p ≢ q) ps → All (λ p. evaluate cs p ≡ evaluate ds p) ps → cs ≡ ds
same_coefficients cs ds ps lows lows' lows'' same few pairs agree =
    let cs' = recursion_from_All IsWord cs lows in
    let ds' = recursion_from_All IsWord ds lows' in
    let ps' = recursion_from_All IsWord ps lows'' in
    let path = coefficients_unique words (elements_of ps) (elements_of cs) (elements_of ds)
    (omega (arith, length-map cs element_of, length-map ds element_of))
    (omega (arith, length-map cs element_of, length-map ps element_of))
    (apart ps ps' pairs)
    (agreed cs ds ps cs' ds' ps' (recursion_from_All (λ p. evaluate cs p ≡ evaluate ds p) ps agree)) in
    sym (numbers_of-elements cs cs') ∙ ap numbers_of path ∙ numbers_of-elements ds ds'

-- a nonzero polynomial has fewer roots than coefficients
pub few_roots : HasFewRoots
few_roots cs rs lows lows' pairs zeros few =
    let none : All IsWord (replicate (length cs) 0) = All-replicate IsWord (length cs) 0 (lit< tt) in
    let same : cs ≡ replicate (length cs) 0 =
    same_coefficients cs (replicate (length cs) 0) rs lows none lows' (sym (length-replicate (length cs) 0)) few pairs
    (λ k d below. zeros k d below ∙ sym (evaluate-zeros (length cs) (get_or rs k d))) in
    rw same (All-replicate (λ c. c ≡ 0) (length cs) 0 refl)
