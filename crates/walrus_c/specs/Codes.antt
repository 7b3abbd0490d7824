-- THE CODE of a refusal: its number, by the status and by the words with which the text begins.
use Rattle.std.specs.Prelude.{ℕ, List, [], ◌∷◌, codes, ◌&&◌, ◌==◌, nat_eq}
use Rattle.std.specs.List.{find, starts_with}
use Rattle.std.specs.Option.{option_map_or}

-- a number, its status, and the words with which the text begins; no words if the text may be any
abbrev pub Row : Type 0
Row = ℕ × ℕ × List ℕ

-- the number of the first row of this status whose words are a prefix of the text, or 0
abbrev pub first_code : List Row → ℕ → List ℕ → ℕ
first_code rows status text =
    option_map_or (λ row. row.0)
    (find (λ row. row.1 == status && starts_with nat_eq text row.2) rows) 0

-- THE TABLE, a row for each refusal; a number is never reused for another one
unfoldable pub refusals : List Row
refusals =
    -- the usage
    (201, 2, codes "usage: ")
    -- something is false: the blob was badly encoded, the proof shows so, the blob is no bundle, an
    -- opening is not the one that was drawn, and the envelope of the proof that `recover` writes
    ∷ (301, 3, codes "reject\n")
    ∷ (302, 3, codes "inconsistent\n")
    ∷ (303, 3, codes "bad index\n")
    ∷ (304, 3, codes "wrong ")
    ∷ (305, 3, 0x57 ∷ [])
    -- something is lacking, or too much
    ∷ (401, 4, codes "no metadata\n")
    ∷ (402, 4, codes "short ")
    ∷ (403, 4, codes "no proof\n")
    ∷ (404, 4, codes "wrong count\n")
    ∷ (405, 4, codes "repeated\n")
    ∷ (406, 4, codes "bad opening ")
    ∷ (407, 4, codes "consistent\n")
    ∷ (408, 4, codes "disk full needed ")
    ∷ (409, 4, codes "too many members\n")
    ∷ (410, 4, codes "bundle too long\n")
    ∷ (411, 4, codes "missing column ")
    ∷ (412, 4, codes "no member of ")
    ∷ (413, 4, codes "no shard\n")
    ∷ (414, 4, codes "no primary\n")
    ∷ (415, 4, codes "no secondary\n")
    ∷ (416, 4, codes "wrong count ")
    -- memory ran out; the source failed; the sink failed, or the room is too small
    ∷ (501, 5, [])
    ∷ (601, 6, [])
    ∷ (701, 7, [])
    -- the input is malformed; `serve` has no line for it, but has answered the requests before
    ∷ (801, 8, codes "malformed at ")
    ∷ (802, 8, codes "not json\n")
    ∷ (803, 8, codes "bad schedule\n")
    ∷ (804, 8, codes "too many events\n")
    ∷ (805, 8, codes "bad event ")
    ∷ (806, 8, [])
    -- the input is too long; two texts have one digest; the text is no list of words
    ∷ (901, 9, [])
    ∷ (1001, 10, [])
    ∷ (1101, 11, [])
    ∷ []

-- the code of a text that was written with this status
unfoldable pub code_of : ℕ → List ℕ → ℕ
code_of status text = first_code refusals status text
