-- Products of differences, over the points before a place, after it, and other than its own.
use Rattle.wal_code.proofs.Common.{◌≡◌, ◌≢◌, ◌∙◌, sym, ℕ, zero, suc, ◌+◌, ◌<◌, ◌≤◌, List, [], ◌∷◌, ◌++◌, length, get_or, take, drop, refl, arith, lit<, cond, eqb, eq-eqb, bit_xor, add-one, drop-cons, drop_of_length-le, ne_eqb, AllByRecursion, IsWord, times, xor-lt, Apart, times-lt, times_assoc, times-one, one-times, product_of_others, product_of_all, cond_both}
use Rattle.std.proofs.Math.Seq.{take-suc}
use Rattle.wal_code.proofs.Points.{point_at}

-- what one point gives to the product over the others
abbrev pub other : ℕ → ℕ → ℕ → ℕ
other p w q = cond (eqb p q) 1 (bit_xor w q)

-- the point p itself gives 1
pub other-same : (p w q : ℕ) → p ≡ q → other p w q ≡ 1
other-same p w q e = rw (eq-eqb p q e)

-- another point gives the sum of the two words
pub other-other : (p w q : ℕ) → p ≢ q → other p w q ≡ bit_xor w q
other-other p w q n = rw (ne_eqb p q n)

other-lt : (p w q : ℕ) → w < 65536 → q < 65536 → other p w q < 65536
other-lt p w q l m = cond_both (eqb p q) 1 (bit_xor w q) (λ n. n < 65536) (λ same. lit< tt) (λ differ. xor-lt w q l m)

pub product_of_others-drop : (known : List ℕ) (i p w : ℕ) → i < length known →
    product_of_others (drop i known) p w ≡ times (other p w (get_or known i 0)) (product_of_others (drop (i + 1) known) p w)
unfolding product_of_others
product_of_others-drop known i p w l = rw (add-one, drop-cons known i 0)

pub product_of_all-drop : (known : List ℕ) (i w : ℕ) → i < length known →
    product_of_all (drop i known) w ≡ times (bit_xor w (get_or known i 0)) (product_of_all (drop (i + 1) known) w)
unfolding product_of_all
product_of_all-drop known i w l = rw (add-one, drop-cons known i 0)

pub product_of_all-lt : (known : List ℕ) (w : ℕ) → product_of_all known w < 65536
unfolding product_of_all
product_of_all-lt [] w = lit< tt
product_of_all-lt (q ∷ known) w = times-lt (bit_xor w q) (product_of_all known w) (product_of_all-lt known w)

pub product_of_others-lt : (known : List ℕ) (p w : ℕ) → product_of_others known p w < 65536
unfolding product_of_others
product_of_others-lt [] p w = lit< tt
product_of_others-lt (q ∷ known) p w = times-lt (other p w q) (product_of_others known p w) (product_of_others-lt known p w)

product_of_all-append : (known : List ℕ) (q w : ℕ) → AllByRecursion IsWord known → q < 65536 → w < 65536 →
    product_of_all (known ++ q ∷ []) w ≡ times (product_of_all known w) (bit_xor w q)
unfolding product_of_all
product_of_all-append [] q w h l m = times-one (bit_xor w q) (xor-lt w q m l) ∙ sym (one-times (bit_xor w q) (xor-lt w q m l))
product_of_all-append (r ∷ known) q w h l m =
    rw (product_of_all-append known q w h.1 l m)
    (sym (times_assoc (bit_xor w r) (product_of_all known w) (bit_xor w q) (product_of_all-lt known w) (xor-lt w q m l)))

words-take : (known : List ℕ) (i : ℕ) → AllByRecursion IsWord known → AllByRecursion IsWord (take i known)
words-take (q ∷ known) (suc i) h = (h.0, words-take known i h.1)
words-take [] (suc i) h = tt
words-take _ zero h = tt

-- one point more before the place
pub product_of_all-take : (known : List ℕ) (i w : ℕ) → AllByRecursion IsWord known → w < 65536 → i < length known →
    product_of_all (take (i + 1) known) w ≡ times (product_of_all (take i known) w) (bit_xor w (get_or known i 0))
product_of_all-take known i w h m l =
    rw (add-one, take-suc known i 0)
    (product_of_all-append (take i known) (get_or known i 0) w (words-take known i h) (point_at IsWord known h i l) m)

-- a point that stands nowhere leaves out nothing
none_left_out : (known : List ℕ) (p w : ℕ) → AllByRecursion (λ q. p ≢ q) known → product_of_others known p w ≡ product_of_all known w
unfolding product_of_others product_of_all
none_left_out [] p w h = refl
none_left_out (q ∷ known) p w h = rw (other-other p w q h.0, none_left_out known p w h.1)

split : (known : List ℕ) (i w : ℕ) → Apart known → w < 65536 → i < length known →
    product_of_others known (get_or known i 0) w ≡
    times (product_of_all (take i known) w) (product_of_all (drop (suc i) known) w)
unfolding product_of_others product_of_all Apart
split [] i w d m l = absurd (omega arith)
split (q ∷ known) zero w d m l = rw (other-same q w q refl, none_left_out known q w d.0)
split (q ∷ known) (suc i) w d m l =
    rw (other-other (get_or known i 0) w q (λ e. point_at (λ p. q ≢ p) known d.0 i (omega arith) (sym e)), split known i w d.1 m (omega arith))
    (sym (times_assoc (bit_xor w q) (product_of_all (take i known) w) (product_of_all (drop (suc i) known) w)
    (product_of_all-lt (take i known) w) (product_of_all-lt (drop (suc i) known) w)))

-- the product over the others is that over the points before the place times that over those after it
pub product_of_others-split : (known : List ℕ) (i w : ℕ) → Apart known → w < 65536 → i < length known →
    product_of_others known (get_or known i 0) w ≡
    times (product_of_all (take i known) w) (product_of_all (drop (i + 1) known) w)
product_of_others-split known i w d m l = rw add-one (split known i w d m l)

-- what a loop over the points keeps: a is the product so far, b the next one, and t the whole
pub taken : (known : List ℕ) (i p w a b t : ℕ) → w < 65536 → get_or known i 0 < 65536 → i < length known →
    b ≡ times a (other p w (get_or known i 0)) → times a (product_of_others (drop i known) p w) ≡ t →
    (b < 65536) × (times b (product_of_others (drop (i + 1) known) p w) ≡ t)
taken known i p w a b t m q l is e =
    let low = other-lt p w (get_or known i 0) m q in (
      rw is (times-lt a (other p w (get_or known i 0)) low),
      rw (
        is,
        times_assoc a (other p w (get_or known i 0)) (product_of_others (drop (i + 1) known) p w) low
            (product_of_others-lt (drop (i + 1) known) p w),
        ← product_of_others-drop known i p w l,
      ) e,
    )

-- once no point is left, the product is whole
pub whole : (known : List ℕ) (i p w a t : ℕ) → a < 65536 → length known ≤ i →
    times a (product_of_others (drop i known) p w) ≡ t → a ≡ t
unfolding product_of_others
whole known i p w a t l h e = sym (times-one a l) ∙ rw drop_of_length-le at e
