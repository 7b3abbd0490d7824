-- What serves private functions and proofs beside Tools.
use Rattle.std.specs.Prelude.{ℕ, ◌*◌, ◌≤◌, List}
use Rattle.wal_shape.specs.Shape.{shard_count}
use Rattle.wal_matrix.specs.Tools.{longest_symbol}

-- a codeword that is filled from its first symbols: the number of faults, and the symbols
pub record ExpansionState : Type 0 where
  pub f : ℕ
  pub symbols : List ℕ

-- room for the longest codeword, and for the scratch in which it is extended
pub record AreTools (f room scratch : ℕ) : Type 0 where
  pub some : 1 ≤ f
  pub few : f ≤ 333
  pub fits : shard_count f * longest_symbol f ≤ room
  pub works : 2048 ≤ scratch
