-- The command that lists the parts that an image holds.
use Rattle.std.specs.Prelude.{◌≡◌, ◌⊎◌, ℕ, ◌+◌, List, [], ◌++◌, length, drop, get_or, codes, Option}
use Rattle.std.specs.Prelude.{Some, None}
use Rattle.std.specs.List.{flat_map}
use Rattle.std.specs.FinMap as map
use Rattle.hex.specs.Hex.{encode_lower}
use Rattle.wal_shape.specs.declared.metadata.BlobId.{BlobId}
use Rattle.wal_shape.specs.declared.part.Part.{Part}
use Rattle.wal_shape.specs.declared.part.Part.TheVariants.{Metadata, Primary, Secondary, Proof}
use Rattle.wal_store.specs.Parts.{Parts}
use Rattle.wal_store.specs.Contents.{Contents, parts_at}
use Rattle.wal_store.specs.Calls.{Call, no_contents, after_calls}
use Rattle.wal_journal.specs.Record.{Accepts}
use Rattle.wal_journal.specs.Reading.{ReadTo, IsBad}
use Rattle.wal_run.specs.Command.{Command, bare, bytes}
use Rattle.wal_run.specs.Lines.{malformed_text, number_text}

-- the word for a part
abbrev pub part_word : Part → List ℕ
part_word Metadata = codes "metadata"
part_word Primary = codes "primary"
part_word Secondary = codes "secondary"
part_word Proof = codes "proof"

-- an identifier in lower-case digits, a part and its size
abbrev pub part_line : BlobId → Part → ℕ → List ℕ
part_line id part size =
    encode_lower id.0 ++ codes " " ++ part_word part ++ number_text (codes " ") size

-- the line of a part, if it is held
abbrev pub part_text : BlobId → Part → Option (List ℕ) → List ℕ
part_text id part None = []
part_text id part (Some content) = part_line id part (length content)

-- the lines of the parts under an identifier
abbrev pub holding_text : BlobId → Parts → List ℕ
holding_text id parts =
    part_text id Metadata parts.metadata ++ part_text id Primary parts.primary
    ++ part_text id Secondary parts.secondary ++ part_text id Proof parts.proof

-- all of them, in the order of the identifiers
abbrev pub contents_text : Contents → List ℕ
contents_text contents = flat_map (λ id. holding_text id (parts_at contents id)) (map.keys contents)

-- an image of no bytes, or one whose record at this place has an open gate and is no record of a
-- lawful change with a byte behind it
abbrev pub IsBrokenAt : List ℕ → ℕ → Type 0
IsBrokenAt image at =
    ((image ≡ []) × (at ≡ 0))
    ⊎ ((changes : List Call) × (held : Contents) × ReadTo image at held changes
    × (get_or image at 0 ≡ 1) × IsBad held (drop (at + 1) image))

-- what is held after the changes that the image accepts
abbrev pub unpacking : Command
unpacking = record (bare 134217728 bytes) {
  Succeeds = λ image text. (changes : List Call) × Accepts image changes
      × (text ≡ contents_text (after_calls no_contents changes));
  Misreads = λ image text. (at : ℕ) × IsBrokenAt image at × (text ≡ malformed_text at);
}
