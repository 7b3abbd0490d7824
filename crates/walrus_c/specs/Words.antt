-- The words of a command in one text.
use Rattle.std.specs.Prelude.{◌≡◌, ℕ, ◌<◌, List, [], ◌∷◌, ◌++◌, IsUtf8, ⊤}

-- no byte of a word is zero
abbrev pub HasNoZero : List ℕ → Type 0
HasNoZero [] = ⊤
HasNoZero (byte ∷ rest) = (0 < byte) × HasNoZero rest

-- the text is these words: each is UTF-8, has no zero byte, and has one behind it
abbrev pub AreWords : List (List ℕ) → List ℕ → Type 0
AreWords [] text = text ≡ []
AreWords (word ∷ words) text =
    IsUtf8 word × HasNoZero word
    × ((rest : List ℕ) × (text ≡ word ++ 0 ∷ rest) × AreWords words rest)

-- the text is no list of words
abbrev pub AreNoWords : List ℕ → Type 0
AreNoWords text = (words : List (List ℕ)) → AreWords words text → ⊥
