-- What the value of a polynomial is after its list of coefficients grew, or after one of them changed.
use Rattle.wal_gf.proofs.Common.{◌≡◌, ℕ, zero, suc, ◌-◌, ◌<◌, ◌≤◌, List, [], ◌∷◌, ◌++◌, length, get_or, set, take, replicate, All, refl, sym, ap, ◌∙◌, arith, bit_xor, take-suc, length-take-le, length-append, AllByRecursion, xor_assoc, xor_zero_l, xor_zero_r, xor_lt, xor_comm, length-replicate, All-append, All-replicate, IsWord, times, power, evaluate, with_zeros}
use Rattle.wal_gf.proofs.Products.{times-xor_right, times-lt, times-zero, one-times, times_assoc}
use Rattle.wal_gf.proofs.Powers.{power-zero, power-suc, power-lt}

pub evaluate-lt : (cs : List ℕ) (x : ℕ) → AllByRecursion IsWord cs → evaluate cs x < 65536
unfolding evaluate
evaluate-lt [] x lows = omega arith
evaluate-lt (c ∷ cs) x lows = xor_lt 16 c (times x (evaluate cs x)) lows.0 (times-lt x (evaluate cs x) (evaluate-lt cs x lows.1))

-- x to the power n + 1, times a word
raised : (x n d : ℕ) → IsWord d → times (power x (suc n)) d ≡ times x (times (power x n) d)
raised x n d low = rw power-suc (times_assoc x (power x n) d (power-lt x n) low)

-- the coefficients of ds count from the power of x behind those of cs
pub evaluate-append : (cs ds : List ℕ) (x : ℕ) → IsWord (evaluate ds x)
    → evaluate (cs ++ ds) x ≡ bit_xor (evaluate cs x) (times (power x (length cs)) (evaluate ds x))
unfolding evaluate
evaluate-append [] ds x low = sym (rw (power-zero x, one-times (evaluate ds x) low) (xor_zero_l (evaluate ds x)))
evaluate-append (c ∷ cs) ds x low =
    rw (evaluate-append cs ds x low, times-xor_right x (evaluate cs x) (times (power x (length cs)) (evaluate ds x)))
    (rw (raised x (length cs) (evaluate ds x) low)
    (sym (xor_assoc c (times x (evaluate cs x)) (times x (times (power x (length cs)) (evaluate ds x))))))

-- one coefficient changes by d
pub evaluate-set : (cs : List ℕ) (i d x : ℕ) → i < length cs → IsWord d
    → evaluate (set cs i (bit_xor (get_or cs i 0) d)) x ≡ bit_xor (evaluate cs x) (times (power x i) d)
unfolding evaluate
evaluate-set [] i d x within low = absurd (omega arith)
evaluate-set (c ∷ cs) zero d x within low =
    let t = times x (evaluate cs x) in
    rw (power-zero x, one-times d low) (xor_assoc c d t ∙ ap (bit_xor c) (xor_comm d t) ∙ sym (xor_assoc c t d))
evaluate-set (c ∷ cs) (suc i) d x within low =
    rw (evaluate-set cs i d x (omega arith) low, times-xor_right x (evaluate cs x) (times (power x i) d))
    (rw (raised x i d low) (sym (xor_assoc c (times x (evaluate cs x)) (times x (times (power x i) d)))))

pub evaluate-one : (d x : ℕ) → evaluate (d ∷ []) x ≡ d
unfolding evaluate
evaluate-one d x = ap (bit_xor d) (times-zero x) ∙ xor_zero_r d

pub evaluate-shift : (cs : List ℕ) (x : ℕ) → evaluate (0 ∷ cs) x ≡ times x (evaluate cs x)
unfolding evaluate
evaluate-shift cs x = xor_zero_l (times x (evaluate cs x))

-- the first i + 1 coefficients
pub evaluate-take : (cs : List ℕ) (i x : ℕ) → i < length cs → IsWord (get_or cs i 0)
    → evaluate (take (suc i) cs) x ≡ bit_xor (evaluate (take i cs) x) (times (power x i) (get_or cs i 0))
evaluate-take cs i x within low =
    let one = evaluate-one (get_or cs i 0) x in
    let all = evaluate-append (take i cs) (get_or cs i 0 ∷ []) x (omega arith) in
    rw (take-suc cs i 0 within, all, one, length-take-le i cs (omega arith))

-- ---- zeros at the end

pub evaluate-zeros : (n x : ℕ) → evaluate (replicate n 0) x ≡ 0
unfolding evaluate
evaluate-zeros zero x = refl
evaluate-zeros (suc n) x = rw (evaluate-zeros n x, times-zero x)

pub evaluate-more_zeros : (cs : List ℕ) (n x : ℕ) → evaluate (cs ++ replicate n 0) x ≡ evaluate cs x
evaluate-more_zeros cs n x =
    let none = evaluate-zeros n x in
    rw (evaluate-append cs (replicate n 0) x (omega arith), none, times-zero (power x (length cs)))
    (xor_zero_r (evaluate cs x))

pub length-with_zeros : (n : ℕ) (cs : List ℕ) → length cs ≤ n → length (with_zeros n cs) ≡ n
length-with_zeros n cs fits = omega (arith, length-append cs (replicate (n - length cs) 0), length-replicate {A = ℕ} (n - length cs) 0)

pub with_zeros-words : (n : ℕ) (cs : List ℕ) → All IsWord cs → All IsWord (with_zeros n cs)
with_zeros-words n cs lows = All-append IsWord cs (replicate (n - length cs) 0) lows (All-replicate IsWord (n - length cs) 0 (omega arith))
