use Rattle.wal_gf.proofs.Common.{◌≡◌, ℕ, List, [], ◌∷◌, ◌++◌, length, drop, ap, ap₂, ◌∙◌, arith, bit_xor, map-append, times, evaluate, words_of, Gf}
use Rattle.wal_gf.proofs.Elements.{zero_element, take-written}
use Rattle.wal_gf.proofs.Coefficients.{evaluate-more_zeros}
use Rattle.wal_gf.proofs.polynomial.Poly.add_multiple.Goals as goal

grown : (room was after other : List Gf) (cs os : List ℕ) (f x : ℕ) → room ≡ was ++ zero_element ∷ [] → words_of was ≡ cs → words_of other ≡ os
    → evaluate (words_of after) x ≡ bit_xor (evaluate (words_of room) x) (times f (evaluate (words_of other) x))
    → evaluate (words_of after) x ≡ bit_xor (evaluate cs x) (times f (evaluate os x))
grown room was after other cs os f x pushed seen seen' added =
    let before : evaluate (words_of room) x ≡ evaluate cs x =
    ap (λ (s : List Gf). evaluate (words_of s) x) pushed
    ∙ ap (λ (s : List ℕ). evaluate s x) (map-append (λ (g : Gf). g.0) was (zero_element ∷ []))
    ∙ evaluate-more_zeros (words_of was) 1 x ∙ ap (λ (s : List ℕ). evaluate s x) seen in
    added ∙ ap₂ (λ (s : ℕ) (t : List ℕ). bit_xor s (times f (evaluate t x))) before seen'

pub returns-clause-value : goal.returns-clause-value
returns-clause-value c x =
    ap (λ (s : List Gf). evaluate (words_of s) x) (take-written c.add_scaled.new.target (drop (length c.add_scaled.new.target) c.push.new.self.items) c.push.new.self.len (omega arith))
    ∙ grown c.deref_mut.result.now c.self.inside.coefficients.items c.add_scaled.new.target c.deref.result.now c.args.self.now c.args.other.now c.args.factor.0 x
    (c.deref_mut.ensures.value ∙ c.in_ok-push.ensures.items) c.self.view_is (ap words_of c.deref.ensures.value ∙ c.other.view_is)
    (c.add_scaled.ensures.value x)
