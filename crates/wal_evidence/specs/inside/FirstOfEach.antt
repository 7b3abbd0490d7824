-- What serves private functions and proofs beside FirstOfEach.
use Rattle.std.specs.Prelude.{ℕ, ◌≤◌, List, length, map, All}
use Rattle.wal_code.specs.Codeword.{Distinct}

-- at most `most`, with distinct keys, and each with this property
pub record AreTaken {Y : Type 0} (Is : Y → Type 0)
    (key : Y → ℕ) (most : ℕ) (taken : List Y) : Type 0 where
  pub few : length taken ≤ most
  pub distinct : Distinct (map key taken)
  pub each : All Is taken
