-- The coefficients of all pairs of a wanted and a known point, row by row.
use Rattle.std.specs.Prelude.{◌≡◌, ℕ, ◌+◌, ◌*◌, ◌<◌, List, length, slice_index, All}
use Rattle.wal_gf.specs.declared.Gf.{Gf}
use Rattle.wal_code.specs.Codeword.{Distinct, coefficient}
use Rattle.wal_code.specs.Weights.{element_at}

-- the rows stand one after the other, and each has the coefficients of its wanted point
pub record IsTable (known wanted : List ℕ) (table : List Gf) : Type 0 where
  pub distinct : Distinct known
  pub known_below : All (λ point. point < 1000) known
  pub wanted_below : All (λ point. point < 1000) wanted
  pub size : length table ≡ length wanted * length known
  pub entries : (row k : ℕ) → row < length wanted → k < length known →
      element_at table (row * length known + k)
      ≡ coefficient known (slice_index known k) (slice_index wanted row)
