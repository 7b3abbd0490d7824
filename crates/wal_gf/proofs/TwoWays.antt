-- Tables that are polynomials along their rows and along their columns.
use Rattle.wal_gf.proofs.Common.{sym, ℕ, List, length, AllByRecursion}
use Rattle.wal_gf.proofs.Algebra.{Field}
use Rattle.wal_gf.proofs.Sums.{sum_over}
use Rattle.wal_gf.proofs.Polynomials.{Apart, IsPolynomial, IsPolynomial-same, IsPolynomial-sum}
use Rattle.wal_gf.proofs.Lagrange.{coefficient, through, interpolation}

module _ {K : Type 0} (F : Field K) where
  open F use {times}

  -- Where each column is a polynomial that the known rows determine, and each known row is one with at most k coefficients,
  -- every row is one with at most k coefficients. R holds of the rows, and C of the columns.
  pub every_row : (k : ℕ) (R C : K → Type 0) (rows : List K) (t : K → K → K) → Apart rows → AllByRecursion R rows →
      AllByRecursion (λ r. IsPolynomial F k C (λ c. t r c)) rows →
      ((c : K) → C c → IsPolynomial F (length rows) R (λ r. t r c)) →
      (r : K) → R r → IsPolynomial F k C (λ c. t r c)
  unfolding through
  every_row k R C rows t d i h l r q =
      IsPolynomial-same F k C (λ c. sum_over F rows (λ p. times (coefficient F rows p r) (t p c))) (λ c. t r c)
      (λ c z. sym (interpolation F R rows (λ s. t s c) d i (l c z) r q))
      (IsPolynomial-sum F k C rows (λ p. coefficient F rows p r) t h)
