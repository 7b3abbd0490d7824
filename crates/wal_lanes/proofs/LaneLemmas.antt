-- What the operations on vectors of eight words hold at each lane.
use Rattle.wal_lanes.proofs.Common.{◌≡◌, ℕ, zero, suc, ◌+◌, ◌-◌, ◌*◌, ◌/◌, ◌%◌, ◌^◌, ◌<◌, List, [], ◌∷◌, length, take, drop, replicate, slice_index, slice_index_or, slice_set, bit_or, refl, sym, ap, ap₂, inl, inr, ◌∙◌, arith, w32, Fits, rotate_right, cases_lt, get_or-drop, get_or-set_other, get_or-set_same, get_or-take, add32, word_at, HasLanes, words_of, length-map}
use Rattle.std.specs.Simd.Lanes.{zip2, Each1}
use Rattle.std.proofs.lemmas.Simd.{length-zip2, get_or-zip2, get_or-replicate, Each1-get_or}

pub HasLanes-same : {v : List ℕ} {f g : ℕ → ℕ} → HasLanes 8 v f → ((k : ℕ) → k < 8 → f k ≡ g k) → HasLanes 8 v g
HasLanes-same h same = record { long = h.long; each = λ k l. h.each k l ∙ same k l }

-- a vector's own lanes
pub HasLanes-own : (v : List ℕ) → length v ≡ 8 → HasLanes 8 v (λ k. slice_index v k)
HasLanes-own v long = record { long = long; each = λ k l. refl }

pub HasLanes-splat : (x : ℕ) → HasLanes 8 (replicate 8 x) (λ _. x)
HasLanes-splat x = record { long = refl; each = λ k l. get_or-replicate 8 k x 0 l }

-- an operator on two vectors
pub HasLanes-zip2 : (op : ℕ → ℕ → ℕ) {a b : List ℕ} {f g : ℕ → ℕ} → HasLanes 8 a f → HasLanes 8 b g → HasLanes 8 (zip2 op a b) (λ k. op (f k) (g k))
HasLanes-zip2 op {a} {b} {f} {g} h h' = record {
  long = length-zip2 op a b (h.long ∙ sym h'.long) ∙ h.long;
  each = λ k l. get_or-zip2 op a b k 0 0 0 (omega (arith, h.long)) (omega (arith, h'.long)) ∙ ap₂ op (h.each k l) (h'.each k l);
}

-- each lane of a vector is itself
pub own : (v : List ℕ) (k : ℕ) → k < 8 → slice_index v k ≡ slice_index v k
own v k l = refl

-- the sum of two vectors whose lanes are known
pub sum_of : (x y : List ℕ) {r : List ℕ} {f g : ℕ → ℕ} → HasLanes 8 r (λ k. add32 (slice_index x k) (slice_index y k))
    → ((k : ℕ) → k < 8 → slice_index x k ≡ f k) → ((k : ℕ) → k < 8 → slice_index y k ≡ g k)
    → (k : ℕ) → k < 8 → slice_index r k ≡ add32 (f k) (g k)
sum_of x y h xs ys k l = h.each k l ∙ ap₂ (λ (s t : ℕ). add32 s t) (xs k l) (ys k l)

-- word i of lane k is lane k of vector i
pub word_of : (w : List (List ℕ)) (i k : ℕ) → slice_index (words_of w k) i ≡ slice_index (slice_index_or w i []) k
word_of [] i k = grind arith
word_of (v ∷ w) zero k = refl
word_of (v ∷ w) (suc i) k = word_of w i k

pub words_of_set : (w : List (List ℕ)) (i k : ℕ) (x : List ℕ) → words_of (slice_set w i x) k ≡ slice_set (words_of w k) i (slice_index x k)
words_of_set [] i k x = refl
words_of_set (v ∷ w) zero k x = refl
words_of_set (v ∷ w) (suc i) k x = ap (λ (l : List ℕ). slice_index v k ∷ l) (words_of_set w i k x)

pub length-words_of : (w : List (List ℕ)) (k : ℕ) → length (words_of w k) ≡ length w
length-words_of w k = length-map w (λ (v : List ℕ). slice_index v k)

-- a word of a block that lies in longer bytes
pub word_in : (bytes : List ℕ) (p i q : ℕ) → i < 16 → q ≡ p + 4 * i → word_at (take 64 (drop p bytes)) (4 * i) ≡ word_at bytes q
word_in bytes p i q l e =
    rw (
      at (4 * i) q (omega arith) (sym e),
      at (4 * i + 1) (q + 1) (omega arith) (omega arith),
      at (4 * i + 2) (q + 2) (omega arith) (omega arith),
      at (4 * i + 3) (q + 3) (omega arith) (omega arith),
    )
  where
    at : (n m : ℕ) → n < 64 → p + n ≡ m → slice_index (take 64 (drop p bytes)) n ≡ slice_index bytes m
    at n m small same = get_or-take 64 (drop p bytes) n 0 small ∙ get_or-drop p bytes n 0 ∙ ap (slice_index bytes) same

-- a rotation by two shifts
pub rotation : (x by : ℕ) → 0 < by → by < 32 → bit_or (x / 2 ^ by) (x * 2 ^ (32 - by) % 2 ^ 32) ≡ rotate_right w32 x by
rotation x by some below =
    let near : by % 32 ≡ by = omega arith in
    let far : (32 - by) % 32 ≡ 32 - by = omega arith in
    rw (near, far)

pub lane_fits : (v : List ℕ) → length v ≡ 8 → Each1 (Fits w32) v → (k : ℕ) → k < 8 → slice_index v k < 2 ^ 32
lane_fits v long fits k l = (Each1-get_or (Fits w32) v k 0 (omega arith) fits).fits

-- a vector that is written out lane by lane
pub HasLanes-listed : {a b c d e f g h : ℕ} {t : ℕ → ℕ} → a ≡ t 0 → b ≡ t 1 → c ≡ t 2 → d ≡ t 3 → e ≡ t 4 → f ≡ t 5 → g ≡ t 6 → h ≡ t 7
    → HasLanes 8 (a ∷ b ∷ c ∷ d ∷ e ∷ f ∷ g ∷ h ∷ []) t
HasLanes-listed {a} {b} {c} {d} {e} {f} {g} {h} {t} p0 p1 p2 p3 p4 p5 p6 p7 = record { long = refl; each = each }
  where
    each : (k : ℕ) → k < 8 → slice_index (a ∷ b ∷ c ∷ d ∷ e ∷ f ∷ g ∷ h ∷ []) k ≡ t k
    each (suc (suc (suc (suc (suc (suc (suc (suc k)))))))) l = absurd (omega arith)
    each _ l = cc (p0, p1, p2, p3, p4, p5, p6, p7)

-- one more vector of words is loaded
pub words_loaded : (w : List (List ℕ)) (v bytes : List ℕ) (at stride i : ℕ) → i < 16 → length w ≡ 16
    → ((k : ℕ) → k < 8 → slice_index v k ≡ word_at bytes (at + 4 * i + k * stride))
    → ((j : ℕ) → j < i → (k : ℕ) → k < 8 → slice_index (words_of w k) j ≡ word_at bytes (at + 4 * j + k * stride))
    → (j : ℕ) → j < i + 1 → (k : ℕ) → k < 8 → slice_index (words_of (slice_set w i v) k) j ≡ word_at bytes (at + 4 * j + k * stride)
words_loaded w v bytes at stride i small long new old j m k l =
    rw (words_of_set w i k v) (elim (cases_lt j i) [
      | inl before ↦ get_or-set_other (words_of w k) i j _ 0 (omega arith) ∙ old j before k l
      | inr after ↦
          let here : i ≡ j = omega arith in
          rw (← here) (get_or-set_same (words_of w k) i _ 0 (omega (arith, length-words_of w k)) ∙ new k l)
    ])

-- eight words, one by one
pub eight_words : {a b c d e f g h p q r s t u v w : ℕ} → a ≡ p → b ≡ q → c ≡ r → d ≡ s → e ≡ t → f ≡ u → g ≡ v → h ≡ w
    → a ∷ b ∷ c ∷ d ∷ e ∷ f ∷ g ∷ h ∷ [] ≡ p ∷ q ∷ r ∷ s ∷ t ∷ u ∷ v ∷ w ∷ []
eight_words ea eb ec ed ee ef eg eh = λ i. ea i ∷ eb i ∷ ec i ∷ ed i ∷ ee i ∷ ef i ∷ eg i ∷ eh i ∷ []
