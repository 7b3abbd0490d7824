-- Records of changes, and what an image of a disk stands for.
use Rattle.std.specs.Prelude.{◌≡◌, ◌≢◌, ℕ, ◌≤◌, ◌⊎◌, ⊤, List, [], ◌∷◌, ◌++◌, length}
use Rattle.std.specs.Int.{w32, to_be_bytes}
use Rattle.wal_shape.specs.declared.part.Part.{Part}
use Rattle.wal_shape.specs.declared.part.Part.TheVariants.{Metadata, Primary, Secondary, Proof}
use Rattle.wal_shape.specs.Shape.{most_bytes}
use Rattle.wal_store.specs.Calls.{Call, Put, DropPart, DropId, no_contents, AreLawful}

-- a size in four bytes, the most significant first
unfoldable pub size_text : ℕ → List ℕ
size_text n = to_be_bytes w32 n

-- the number of a part
abbrev pub part_byte : Part → ℕ
part_byte Metadata = 0
part_byte Primary = 1
part_byte Secondary = 2
part_byte Proof = 3

-- what a record says behind its gate
pub record Fields : Type 0 where
  pub kind : ℕ
  pub id : List ℕ
  pub part : ℕ
  pub bytes : List ℕ

-- the fields of a change: kind 1 puts, 2 drops a part, 3 drops an identifier
abbrev pub fields : Call → Fields
fields (Put id part bytes) = record { kind = 1; id = id.0; part = part_byte part; bytes = bytes }
fields (DropPart id part) = record { kind = 2; id = id.0; part = part_byte part; bytes = [] }
fields (DropId id) = record { kind = 3; id = id.0; part = 0; bytes = [] }

-- the kind, the identifier, the part, the size in four bytes, and that many bytes
abbrev pub fields_text : Fields → List ℕ
fields_text f = f.kind ∷ (f.id ++ (f.part ∷ (size_text (length f.bytes) ++ f.bytes)))

-- a record without its gate
abbrev pub spelling : Call → List ℕ
spelling call = fields_text (fields call)

-- an identifier of 32 bytes, and for a put from 1 byte to as many as a blob may have
abbrev pub IsWholeRecord : Call → Type 0
IsWholeRecord (Put id part bytes) =
    (length id.0 ≡ 32) × (1 ≤ length bytes) × (length bytes ≤ most_bytes)
IsWholeRecord (DropPart id part) = length id.0 ≡ 32
IsWholeRecord (DropId id) = length id.0 ≡ 32

abbrev pub AreWholeRecords : List Call → Type 0
AreWholeRecords [] = ⊤
AreWholeRecords (call ∷ changes) = IsWholeRecord call × AreWholeRecords changes

-- the records of changes, each behind a gate that is open
abbrev pub records : List Call → List ℕ
records [] = []
records (call ∷ changes) = 1 ∷ (spelling call ++ records changes)

-- an image begins with the records of the changes in order, and a byte other than 1 follows
pub record Stands (image : List ℕ) (changes : List Call) : Type 0 where
  pub whole : AreWholeRecords changes
  pub gate : ℕ
  pub rest : List ℕ
  pub is : image ≡ records changes ++ gate ∷ rest
  pub closed : gate ≢ 1

-- and each of the changes is lawful after those before it, starting from no contents
pub record Accepts (image : List ℕ) (changes : List Call) : Type 0 where
  pub stands : Stands image changes
  pub lawful : AreLawful no_contents changes

-- a change in flight has happened, or it has not
abbrev pub EitherWay : List Call → Call → List ℕ → Type 0
EitherWay changes call image = Accepts image changes ⊎ Accepts image (changes ++ call ∷ [])

-- an image stands for at most one list of changes
abbrev pub StandsOnce : Type 0
StandsOnce =
    (image : List ℕ) (changes others : List Call) → Stands image changes → Stands image others
    → changes ≡ others
