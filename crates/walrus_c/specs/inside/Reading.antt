-- A text of words that is read in part.
use Rattle.std.specs.Prelude.{ℕ, List, ◌++◌}
use Rattle.walrus_c.specs.Words.{HasNoZero, AreWords}

-- these words of the text were read, and a prefix of the next one; this is left
pub record ReadSoFar (words : List (List ℕ)) (word left text : List ℕ) : Type 0 where
  pub quiet : HasNoZero word
  pub goes_on : (rest : List (List ℕ)) → AreWords rest (word ++ left)
      → AreWords (words ++ rest) text
  pub only : (all : List (List ℕ)) → AreWords all text
      → (rest : List (List ℕ)) × AreWords rest (word ++ left)
