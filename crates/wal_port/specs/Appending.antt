-- Texts that are written in part.
use Rattle.std.specs.Prelude.{ℕ, ◌<◌, List, length, take, Option}
use Rattle.std.specs.Io.KnownBytes.{Appends}

-- a part of the text was appended: its front, and not all of it
abbrev pub AppendsPart : Option (List ℕ) → Option (List ℕ) → List ℕ → Type 0
AppendsPart old new text = (count : ℕ) × (count < length text) × Appends old new (take count text)
