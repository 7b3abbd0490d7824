use Rattle.wal_gf.proofs.Common.{◌≡◌, ℕ, suc, ◌-◌, ◌<◌, ◌≤◌, List, ◌∷◌, length, drop, slice_index_or, sym, ap, ap₂, ◌∙◌, arith, bit_xor, drop-cons, drop_of_length-le, times, evaluate, words_of, Gf}
use Rattle.wal_gf.proofs.polynomial.Poly.eval.Goals as goal

no_coefficient : (gs : List Gf) (n x : ℕ) → length gs ≤ n → 0 ≡ evaluate (words_of (drop n gs)) x
unfolding evaluate
no_coefficient gs n x past = sym (ap (λ (s : List Gf). evaluate (words_of s) x) (drop_of_length-le gs past))

one_more : (gs : List Gf) (n x v : ℕ) (g : Gf) → 0 < n → n ≤ length gs → g ≡ slice_index_or gs (n - 1) g
    → v ≡ evaluate (words_of (drop n gs)) x → bit_xor g.0 (times x v) ≡ evaluate (words_of (drop (n - 1) gs)) x
unfolding evaluate
one_more gs n x v g some within here before =
    let at : suc (n - 1) ≡ n = omega arith in
    let split : drop (n - 1) gs ≡ g ∷ drop n gs =
    drop-cons gs (n - 1) g (omega arith) ∙ ap₂ (λ (h : Gf) (k : ℕ). h ∷ drop k gs) (sym here) at in
    ap (λ (s : ℕ). bit_xor g.0 (times x s)) before ∙ sym (ap (λ (s : List Gf). evaluate (words_of s) x) split)

pub loop-place-init : goal.loop-place-init
loop-place-init c = no_coefficient c.self.inside.coefficients.items c.len-place.result c.args.x.0 (omega arith)

pub loop-place-preserved : goal.loop-place-preserved
loop-place-preserved c =
    c.add-value.ensures ∙ ap (λ (s : ℕ). bit_xor c.index.result.now.0 s) c.mul.ensures
    ∙ one_more c.self.inside.coefficients.items c.loop-place.place c.args.x.0 c.loop-place.value.0 c.index.result.now c.loop-place-test.true (omega arith) c.index.ensures c.loop-place.invariant
