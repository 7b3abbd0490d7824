use Rattle.wal_gf.proofs.Common.{◌≡◌, ℕ, List, [], ◌∷◌, ◌++◌, length, drop, sym, ap, ap₂, ◌∙◌, arith, bit_xor, times, evaluate, words_of, Gf}
use Rattle.wal_gf.proofs.Products.{times-xor_left}
use Rattle.wal_gf.proofs.Elements.{zero_element, take-written}
use Rattle.wal_gf.proofs.Coefficients.{evaluate-shift}
use Rattle.wal_gf.proofs.polynomial.Poly.times_root.Goals as goal

multiplied : (shifted was after other : List Gf) (cs : List ℕ) (r x : ℕ) → shifted ≡ zero_element ∷ was → words_of was ≡ cs → words_of other ≡ cs
    → evaluate (words_of after) x ≡ bit_xor (evaluate (words_of shifted) x) (times r (evaluate (words_of other) x))
    → evaluate (words_of after) x ≡ times (bit_xor x r) (evaluate cs x)
multiplied shifted was after other cs r x is seen seen' added =
    let before : evaluate (words_of shifted) x ≡ times x (evaluate cs x) =
    ap (λ (s : List Gf). evaluate (words_of s) x) is ∙ evaluate-shift (words_of was) x ∙ ap (λ (s : List ℕ). times x (evaluate s x)) seen in
    added ∙ ap₂ (λ (s : ℕ) (t : List ℕ). bit_xor s (times r (evaluate t x))) before seen' ∙ sym (times-xor_left (evaluate cs x) x r)

shifted : (made pushed extended now slice was : List Gf) → made ≡ [] → pushed ≡ made ++ zero_element ∷ [] → extended ≡ pushed ++ slice → slice ≡ was
    → now ≡ extended → now ≡ zero_element ∷ was
shifted made pushed extended now slice was none one more same is =
    is ∙ more ∙ ap₂ (λ (s t : List Gf). s ++ t) (one ∙ ap (λ (s : List Gf). s ++ zero_element ∷ []) none) same

pub returns-clause-value : goal.returns-clause-value
returns-clause-value c x =
    ap (λ (s : List Gf). evaluate (words_of s) x) (take-written c.add_scaled.new.target (drop (length c.add_scaled.new.target) c.extend_from_slice.new.self.items) c.extend_from_slice.new.self.len (omega arith))
    ∙ multiplied c.deref_mut.result.now c.self.inside.coefficients.items c.add_scaled.new.target c.deref-2.result.now c.args.self.now c.args.root.0 x
    (shifted c.in_ok-coefficients.coefficients.items c.push.new.self.items c.extend_from_slice.new.self.items c.deref_mut.result.now c.deref.result.now
    c.self.inside.coefficients.items c.in_ok-coefficients.ensures.items c.in_ok-push.ensures.items c.in_ok-extend_from_slice.ensures.items c.deref.ensures.value c.deref_mut.ensures.value)
    c.self.view_is (ap words_of c.deref-2.ensures.value ∙ c.self.view_is)
    (c.add_scaled.ensures.value x)
