-- Two lists are equal or not, and a thing holds everywhere or its contrary somewhere.
use Rattle.wal_evidence.proofs.Common.{◌≡◌, ◌≢◌, ◌⊎◌, ℕ, zero, suc, ◌<◌, List, Bool, true, false, Decides, refl, arith, inl, inr, ⊎_elim, bytes_eq, cases_lt, false≢true}
use Rattle.std.proofs.lemmas.Slice.Eq.{bytes_eq-Decides}
use Rattle.wal_tree.specs.Collision.{IsCollision}
use Rattle.wal_commit.proofs.OneDigest.{IsDigest, IsOneToOne}

-- what a test decides is so or not
pub decided : {P : Type 0} (r : Bool) → Decides r P → P ⊎ (P → ⊥)
decided true d = inl (d.0 refl)
decided false d = inr (λ p. false≢true (d.1 p))

-- two lists are equal or not
pub same_or_not : (xs ys : List ℕ) → (xs ≡ ys) ⊎ (xs ≢ ys)
same_or_not xs ys = decided (bytes_eq xs ys) (bytes_eq-Decides xs ys)

-- one of two things at each place: the first at all, or the second at some
pub all_or_some : (P Q : ℕ → Type 0) (n : ℕ) → ((k : ℕ) → k < n → P k ⊎ Q k) → ((k : ℕ) → k < n → P k) ⊎ ((k : ℕ) × (k < n) × Q k)
all_or_some P Q zero each = inl (λ k l. absurd (omega arith))
all_or_some P Q (suc n) each =
    ⊎_elim
    (λ all. ⊎_elim
    (λ p. inl (λ k l. ⊎_elim (all k) (λ past. let same : n ≡ k = omega arith in rw same at p) (cases_lt k n)))
    (λ q. inr (n, omega arith, q))
    (each n (omega arith)))
    (λ some. let l = some.1 in inr (some.0, omega arith, some.2))
    (all_or_some P Q n (λ k l. each k (omega arith)))

-- where no two texts collide a digest tells texts apart
pub one_to_one : (digest : List ℕ → List ℕ) → IsDigest digest → ((left right : List ℕ) → IsCollision digest left right → ⊥) → IsOneToOne digest
one_to_one digest is none = record {
  digests = is;
  one = λ x y bytes_x bytes_y same. ⊎_elim (λ e. e) (λ differ. absurd (none x y (record { left = bytes_x; right = bytes_y; differ = differ; same = same }))) (same_or_not x y);
}
