-- Bytes and the words that they are.
use Rattle.wal_kernel.proofs.Common.{refl, ◌≡◌, suc, replicate, ◌⊎◌, inl, inr, ℕ, ◌+◌, ◌*◌, ◌/◌, ◌%◌, ◌<◌, List, length, take, drop, slice_index, get_or, sym, ◌∙◌, ap, ap₂, arith, eq-or-lt_of_le, ext_get_or, get_or-drop, get_or-take, word_at, region}

-- two bytes that are a word
word_bytes : (a b x y : ℕ) → b < 256 → y < 256 → a * 256 + b ≡ x * 256 + y → (a ≡ x) × (b ≡ y)
word_bytes a b x y p q e = omega arith

-- a byte of two lists whose words agree
same_byte : (xs ys : List ℕ) → ((k : ℕ) → slice_index xs k < 256) → ((k : ℕ) → slice_index ys k < 256) → (i k : ℕ) → word_at xs i ≡ word_at ys i → (k ≡ 2 * i) ⊎ (k ≡ 2 * i + 1) → slice_index xs k ≡ slice_index ys k
same_byte xs ys below_x below_y i k e (inl at) = rw at (word_bytes _ _ _ _ (below_x (2 * i + 1)) (below_y (2 * i + 1)) e).0
same_byte xs ys below_x below_y i k e (inr at) = rw at (word_bytes _ _ _ _ (below_x (2 * i + 1)) (below_y (2 * i + 1)) e).1

-- an index is that of a word's first or second byte
halves : (k : ℕ) → (k ≡ 2 * (k / 2)) ⊎ (k ≡ 2 * (k / 2) + 1)
halves k = elim (eq-or-lt_of_le {n = 2 * (k / 2)} {m = k} (omega arith)) [ inl e ↦ inl (sym e) | inr l ↦ inr (omega arith) ]

-- bytes are determined by their words
pub bytes_from_words : (xs ys : List ℕ) → length xs ≡ length ys → length xs % 2 ≡ 0 → ((k : ℕ) → slice_index xs k < 256) → ((k : ℕ) → slice_index ys k < 256)
    → ((i : ℕ) → 2 * i + 1 < length xs → word_at xs i ≡ word_at ys i) → xs ≡ ys
bytes_from_words xs ys long even below_x below_y same =
    ext_get_or 0 xs ys long (λ k l. same_byte xs ys below_x below_y (k / 2) k (same (k / 2) (omega arith)) (halves k))

-- words of a part
pub word_at-take : (n : ℕ) (xs : List ℕ) (i : ℕ) → 2 * i + 1 < n → word_at (take n xs) i ≡ word_at xs i
word_at-take n xs i l = ap₂ (λ a b. a * 256 + b) (get_or-take n xs (2 * i) 0 (omega arith)) (get_or-take n xs (2 * i + 1) 0 l)

pub word_at-drop : (h : ℕ) (xs : List ℕ) (i : ℕ) → word_at (drop (2 * h) xs) i ≡ word_at xs (h + i)
word_at-drop h xs i =
    ap₂ (λ a b. a * 256 + b)
    (get_or-drop (2 * h) xs (2 * i) 0 ∙ ap (λ k. get_or xs k 0) (omega arith))
    (get_or-drop (2 * h) xs (2 * i + 1) 0 ∙ ap (λ k. get_or xs k 0) (omega arith))

pub word_at-region : (h k i : ℕ) (xs : List ℕ) → i < h → word_at (region (2 * h) xs k) i ≡ word_at xs (h * k + i)
word_at-region h k i xs l =
    word_at-take (2 * h) (drop (2 * h * k) xs) i (omega arith)
    ∙ ap (λ n. word_at (drop n xs) i) (omega arith)
    ∙ word_at-drop (h * k) xs i

-- words of bytes are words of the field
pub word_at-lt : (xs : List ℕ) (i : ℕ) → ((k : ℕ) → slice_index xs k < 256) → word_at xs i < 65536
word_at-lt xs i below = omega (arith, below (2 * i), below (2 * i + 1))

-- zero bytes are the words 0
pub zero_byte : (n k : ℕ) → slice_index (replicate n 0) k ≡ 0
zero_byte (suc n) (suc k) = zero_byte n k
zero_byte _ _ = refl

pub word_at-zeros : (n i : ℕ) → word_at (replicate n 0) i ≡ 0
word_at-zeros n i = ap₂ (λ a b. a * 256 + b) (zero_byte n (2 * i)) (zero_byte n (2 * i + 1))
