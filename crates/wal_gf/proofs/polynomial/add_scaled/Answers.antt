use Rattle.wal_gf.proofs.Common.{◌≡◌, ℕ, suc, ◌+◌, ◌<◌, List, length, set, take, get_or, All, sym, ap, ap₂, ◌∙◌, arith, rules, bit_xor, add-one, take-map, xor_assoc, xor_zero_r, map-set, All-set, IsWord, times, power, evaluate, words_of, Gf}
use Rattle.wal_gf.proofs.Products.{times-xor_right, times-lt, times-zero, times_left_comm}
use Rattle.wal_gf.proofs.Powers.{power-lt}
use Rattle.wal_gf.proofs.Elements.{zero_element, number_at, length-words_of, element_word}
use Rattle.wal_gf.proofs.Coefficients.{evaluate-set, evaluate-take}
use Rattle.wal_gf.proofs.polynomial.add_scaled.Goals as goal

more_words : (gs : List Gf) (i : ℕ) (g : Gf) → IsWord g.0 → All IsWord (words_of gs) → All IsWord (words_of (set gs i g))
more_words gs i g low lows = rw (map-set (λ (h : Gf). h.0) gs i g) (All-set IsWord (words_of gs) i g.0 low lows)

turn : (target other : List Gf) (new : Gf) (i f x base : ℕ) → i < length target → i < length other → IsWord f → IsWord (get_or other i zero_element).0
    → new.0 ≡ bit_xor (get_or target i zero_element).0 (times f (get_or other i zero_element).0)
    → evaluate (words_of target) x ≡ bit_xor base (times f (evaluate (words_of (take i other)) x))
    → evaluate (words_of (set target i new)) x ≡ bit_xor base (times f (evaluate (words_of (take (i + 1) other)) x))
turn target other new i f x base within within' low low' is before =
    let o : ℕ = (get_or other i zero_element).0 in
    let here : get_or (words_of other) i 0 ≡ o = number_at other i in
    let there : new.0 ≡ bit_xor (get_or (words_of target) i 0) (times f o) =
    is ∙ ap (λ (s : ℕ). bit_xor s (times f o)) (sym (number_at target i)) in
    let more : words_of (take (i + 1) other) ≡ take (suc i) (words_of other) =
    ap (λ (k : ℕ). words_of (take k other)) (add-one i) ∙ sym (take-map (λ (h : Gf). h.0) (suc i) other) in
    let grown : evaluate (words_of (take (i + 1) other)) x ≡ bit_xor (evaluate (words_of (take i other)) x) (times (power x i) o) =
    ap (λ (s : List ℕ). evaluate s x) more
    ∙ evaluate-take (words_of other) i x (omega (arith, length-words_of other)) (omega arith)
    ∙ ap₂ (λ (s : List ℕ) (t : ℕ). bit_xor (evaluate s x) (times (power x i) t)) (take-map (λ (h : Gf). h.0) i other) here in
    ap (λ (s : List ℕ). evaluate s x) (map-set (λ (h : Gf). h.0) target i new ∙ ap (λ (t : ℕ). set (words_of target) i t) there)
    ∙ evaluate-set (words_of target) i (times f o) x (omega (arith, length-words_of target)) (times-lt f o low')
    ∙ ap₂ (λ (s t : ℕ). bit_xor s t) before (times_left_comm (power x i) f o (power-lt x i) low low')
    ∙ xor_assoc base (times f (evaluate (words_of (take i other)) x)) (times f (times (power x i) o))
    ∙ ap (λ (s : ℕ). bit_xor base s)
    (sym (times-xor_right f (evaluate (words_of (take i other)) x) (times (power x i) o)) ∙ ap (times f) (sym grown))

pub loop-place-init : goal.loop-place-init
unfolding evaluate
loop-place-init c = record {
  words = c.requires.words;
  value = λ x. sym (ap (bit_xor (evaluate (words_of c.args.target.now) x)) (times-zero c.args.factor.0) ∙ xor_zero_r _);
}

pub loop-place-preserved : goal.loop-place-preserved
loop-place-preserved c = record {
  words = more_words c.loop-place.target c.loop-place.place c.add.result (search rules) c.loop-place.invariant.words;
  value = λ x. turn c.loop-place.target c.args.other.now c.add.result c.loop-place.place c.args.factor.0 x _
      (omega arith) (omega arith) (search rules) (element_word c.args.other.now c.loop-place.place (omega arith) c.requires.other_words)
      (c.add.ensures ∙ ap (λ (s : ℕ). bit_xor (get_or c.loop-place.target c.loop-place.place zero_element).0 s) c.mul.ensures)
      (c.loop-place.invariant.value x);
}
