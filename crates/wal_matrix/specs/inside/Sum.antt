-- Weighted sums of regions.
use Rattle.std.specs.Prelude.{◌≡◌, ℕ, ◌+◌, ◌*◌, ◌<◌, List, length}
use Rattle.wal_gf.specs.Field.{times, xor_below}
use Rattle.wal_kernel.specs.Region.{word_at, region}

-- a region of `size` bytes is the sum of the first `count` regions of the sources, each times its
-- weight
pub record IsWeightedSum (weight : ℕ → ℕ) (size : ℕ)
    (sources : List ℕ) (count : ℕ) (target : List ℕ) : Type 0 where
  pub long : length target ≡ size
  pub words : (word : ℕ) → 2 * word + 1 < size
      → word_at target word
      ≡ xor_below count (λ k. times (weight k) (word_at (region size sources k) word))
