-- Lists of points, between their facts by index and by recursion.
use Rattle.wal_code.proofs.Common.{◌≢◌, ℕ, zero, suc, ◌<◌, List, [], ◌∷◌, length, get_or, arith, AllByRecursion, recursion_from_All, IsWord, Apart, Distinct}

-- distinct points are apart
pub apart : (known : List ℕ) → Distinct known → Apart known
unfolding Apart
apart [] h = tt
apart (q ∷ known) h = (
  recursion_from_All (λ p. q ≢ p) known (λ k d l. h zero (suc k) d (omega arith) (omega arith)),
  apart known (λ i j d l m. h (suc i) (suc j) d (omega arith) (omega arith)),
)

-- what holds of each point holds of the one at an index
pub point_at : (P : ℕ → Type 0) (known : List ℕ) → AllByRecursion P known → (i : ℕ) → i < length known → P (get_or known i 0)
point_at P [] h i l = absurd (omega arith)
point_at P (q ∷ known) h zero l = h.0
point_at P (q ∷ known) h (suc i) l = point_at P known h.1 i (omega arith)

pub words_of : (known : List ℕ) → ((i : ℕ) → i < length known → get_or known i 0 < 65536) → AllByRecursion IsWord known
words_of [] h = tt
words_of (q ∷ known) h = (h zero (omega arith), words_of known (λ i l. h (suc i) (omega arith)))
