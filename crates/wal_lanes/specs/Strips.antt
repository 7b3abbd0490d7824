-- Pieces of equal length that come strip by strip: the same bytes of each at a time.
use Rattle.std.specs.Prelude.{◌≡◌, ℕ, ◌*◌, ◌<◌, List, ◌∷◌, length, take, drop}

-- the strip holds the `long` bytes from `from` on of each of `count` pieces, one after the other
abbrev pub IsStrip : (ℕ → List ℕ → Type 0) → ℕ → ℕ → ℕ → List ℕ → Type 0
IsStrip Has count from long strip =
    (k : ℕ) → k < count → (piece : List ℕ) → Has k piece
    → take long (drop (k * long) strip) ≡ take long (drop from piece)

-- 32 bytes for each of `count` pieces: the digest of the prefix byte and the piece
pub record AreDigestsOf (digest : List ℕ → List ℕ) (prefix : ℕ)
    (Has : ℕ → List ℕ → Type 0) (count : ℕ) (digests : List ℕ) : Type 0 where
  pub long : length digests ≡ count * 32
  pub each : (k : ℕ) → k < count → (piece : List ℕ) → Has k piece
      → take 32 (drop (k * 32) digests) ≡ digest (prefix ∷ piece)
