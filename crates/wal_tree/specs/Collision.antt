-- Two texts that break a digest.
use Rattle.std.specs.Prelude.{◌≡◌, ◌≢◌, ℕ, List, All}
use Rattle.wal_tree.specs.Digests.{IsByte}

-- two different texts of bytes with one digest
pub record IsCollision (digest : List ℕ → List ℕ) (one other : List ℕ) : Type 0 where
  pub left : All IsByte one
  pub right : All IsByte other
  pub differ : one ≢ other
  pub same : digest one ≡ digest other

-- it is impossible that no two different texts of bytes have one digest
abbrev pub CanCollide : (List ℕ → List ℕ) → Type 0
CanCollide digest = ((one other : List ℕ) → IsCollision digest one other → ⊥) → ⊥
