-- Lines of text that commands write.
use Rattle.std.specs.Prelude.{ℕ, List, ◌++◌, codes, decimal}
use Rattle.wal_event.specs.Report.{hex_text}

-- a prefix, a number, and a newline
abbrev pub number_text : List ℕ → ℕ → List ℕ
number_text prefix number = prefix ++ decimal number ++ codes "\n"

-- the place where no whole envelope, or no record, begins
abbrev pub malformed_text : ℕ → List ℕ
malformed_text place = number_text (codes "malformed at ") place

-- how many parts were held, and how many are needed
abbrev pub short_text : ℕ → ℕ → List ℕ
short_text have need = codes "short " ++ decimal have ++ number_text (codes " of ") need

-- two texts with one digest
abbrev pub collision_text : List ℕ → List ℕ → List ℕ
collision_text left right =
    codes "collision " ++ hex_text left ++ codes " " ++ hex_text right ++ codes "\n"
