-- The digests of equally long pieces of some content, each behind a prefix byte.
use Rattle.std.specs.Prelude.{◌≡◌, ℕ, ◌*◌, ◌/◌, ◌<◌, List, ◌∷◌, length, take, drop}

-- the text of the piece at this place: the prefix, and the piece
abbrev pub text : ℕ → ℕ → List ℕ → ℕ → List ℕ
text prefix size content place = prefix ∷ take size (drop (place * size) content)

-- 32 bytes for each piece of the content; those of the first `count` pieces are the digests of
-- their texts
pub record AreDigests (digest : List ℕ → List ℕ) (prefix size : ℕ)
    (content : List ℕ) (count : ℕ) (digests : List ℕ) : Type 0 where
  pub long : length digests ≡ length content / size * 32
  pub each : (place : ℕ) → place < count
      → take 32 (drop (place * 32) digests) ≡ digest (text prefix size content place)
