-- The commands, and the words that ask for each.
use Rattle.std.specs.Prelude.{◌≡◌, ℕ, ◌*◌, ◌≤◌, List, [], ◌∷◌, Option, Some, None, codes, decimal}
use Rattle.std.specs.Prelude.{Ok}
use Rattle.hex.specs.Hex.{decode_sized}
use Rattle.clap.specs.Faults.{fault_of}
use Rattle.wal_shape.specs.declared.metadata.BlobId.{BlobId}
use Rattle.wal_shape.specs.declared.axis.Axis.{Axis}
use Rattle.wal_shape.specs.declared.axis.Axis.TheVariants.{Primary, Secondary}
use Rattle.wal_shape.specs.declared.shape.Format.{Format}
use Rattle.wal_shape.specs.declared.shape.Format.TheVariants.{One, Two}
use Rattle.wal_words.specs.declared.task.Audit.{Audit}
use Rattle.wal_words.specs.declared.task.Options.{Options}
use Rattle.wal_words.specs.declared.task.Task.{Task}
use Rattle.wal_words.specs.declared.task.Task.TheVariants.{Whole, Read, Serve, Sample}
use Rattle.wal_words.specs.declared.task.WholeTask.TheVariants.{Identify, Encode, Recover, Check}
use Rattle.wal_words.specs.declared.task.WholeTask.TheVariants.{Replay, Image, Unpack, Bundle}
use Rattle.wal_words.specs.declared.task.WholeTask.TheVariants.{Member, Challenge, Verify, Gateway}
use Rattle.wal_words.specs.CommandLine.{program, values_in, option_in}

-- the word spells a number of this range in decimal digits, with neither a sign nor a leading zero
abbrev pub IsNumber : ℕ → ℕ → List ℕ → ℕ → Type 0
IsNumber least most word n = (word ≡ decimal n) × (least ≤ n) × (n ≤ most)

-- the word spells 32 bytes in hexadecimal digits of either case
abbrev pub IsIdentifier : List ℕ → List ℕ → Type 0
IsIdentifier word id = decode_sized word 32 ≡ Ok id

-- the word spells the 32 bytes of a beacon, as an identifier is spelled
abbrev pub IsBeacon : List ℕ → List ℕ → Type 0
IsBeacon word beacon = decode_sized word 32 ≡ Ok beacon

-- the word names an axis
abbrev pub IsAxis : List ℕ → Axis → Type 0
IsAxis word Primary = word ≡ codes "primary"
IsAxis word Secondary = word ≡ codes "secondary"

-- the word names a format
abbrev pub IsFormat : List ℕ → Format → Type 0
IsFormat word One = word ≡ codes "1"
IsFormat word Two = word ≡ codes "2"

-- the words spell a storage challenge: the blob, the shard, the beacon and the number of symbols
pub record IsAudit (word place beacon amount : List ℕ) (audit : Audit) : Type 0 where
  pub identifier : IsIdentifier word audit.id.0
  pub shard_number : IsNumber 0 999 place audit.shard
  pub beacon_bytes : IsBeacon beacon audit.beacon
  pub symbol_count : IsNumber 1 1000 amount audit.count

-- the values ask for this task, which takes the options that it needs: a row for each command
pub data IsRow (options : Options) : List (List ℕ) → Task → Type 0 where
  identify : (word : List ℕ) (f : ℕ) → IsNumber 1 333 word f
      → IsRow options (codes "id" ∷ word ∷ []) (Whole (Identify f options.format))
  encode : (word : List ℕ) (f : ℕ) → IsNumber 1 333 word f
      → IsRow options (codes "encode" ∷ word ∷ []) (Whole (Encode f options.format))
  read : (word : List ℕ) (id : BlobId) → IsIdentifier word id.0
      → IsRow options (codes "read" ∷ word ∷ []) (Read id)
  recover : (word direction place : List ℕ) (id : BlobId) (axis : Axis) (index : ℕ)
      → IsIdentifier word id.0 → IsAxis direction axis
      → IsNumber 0 999 place index
      → IsRow options (codes "recover" ∷ word ∷ direction ∷ place ∷ [])
      (Whole (Recover id axis index))
  check : (word : List ℕ) (id : BlobId) → IsIdentifier word id.0
      → IsRow options (codes "check" ∷ word ∷ []) (Whole (Check id))
  serve : (word place : List ℕ) (f shard : ℕ) → IsNumber 1 333 word f
      → IsNumber 0 (3 * f) place shard
      → IsRow options (codes "serve" ∷ word ∷ place ∷ [])
      (Serve (record { faults = f; shard = shard; blobs = options.blobs; pages = options.pages }))
  replay : IsRow options (codes "replay" ∷ []) (Whole Replay)
  sample : (word : List ℕ) (number : ℕ) → IsNumber 0 18446744073709551615 word number
      → IsRow options (codes "sample" ∷ word ∷ []) (Sample number)
  image : (word : List ℕ) (size : ℕ) → IsNumber 1 134217728 word size
      → IsRow options (codes "image" ∷ word ∷ []) (Whole (Image size))
  unpack : IsRow options (codes "unpack" ∷ []) (Whole Unpack)
  bundle : (word : List ℕ) (f : ℕ) → IsNumber 1 333 word f
      → IsRow options (codes "bundle" ∷ word ∷ []) (Whole (Bundle f))
  member : (word place : List ℕ) (id : BlobId) (number : ℕ) → IsIdentifier word id.0
      → IsNumber 0 65535 place number
      → IsRow options (codes "member" ∷ word ∷ place ∷ []) (Whole (Member id number))
  challenge : (word place beacon amount : List ℕ) (audit : Audit)
      → IsAudit word place beacon amount audit
      → IsRow options (codes "challenge" ∷ word ∷ place ∷ beacon ∷ amount ∷ [])
      (Whole (Challenge audit))
  verify : (word place beacon amount : List ℕ) (audit : Audit)
      → IsAudit word place beacon amount audit
      → IsRow options (codes "verify" ∷ word ∷ place ∷ beacon ∷ amount ∷ []) (Whole (Verify audit))
  gateway : (word : List ℕ) (capacity : ℕ) → IsNumber 1 64 word capacity
      → IsRow options (codes "gateway" ∷ word ∷ []) (Whole (Gateway capacity))

-- an option's number, in its range if it is given, and `missing` if not
abbrev pub HasNumber : ℕ → ℕ → ℕ → Option (List ℕ) → ℕ → Type 0
HasNumber missing least most None n = n ≡ missing
HasNumber missing least most (Some word) n = IsNumber least most word n

-- the option's format, or the first if none is given
abbrev pub HasFormat : Option (List ℕ) → Format → Type 0
HasFormat None format = format ≡ One
HasFormat (Some word) format = IsFormat word format

-- the options that are given, each in its range; without them 1,024 blobs, 16,384 pages and the
-- first format
pub record HasOptions (blobs pages format : Option (List ℕ)) (options : Options) : Type 0 where
  pub blob_count : HasNumber 1024 1 65536 blobs options.blobs
  pub page_count : HasNumber 16384 1 262144 pages options.pages
  pub identifier_format : HasFormat format options.format

-- the values ask for this task, with options that are in range
pub record Asks (values : List (List ℕ))
    (blobs pages format : Option (List ℕ)) (task : Task) : Type 0 where
  pub options : Options
  pub has_options : HasOptions blobs pages format options
  pub row : IsRow options values task

-- clap finds no fault in the words, and its values and options ask for this task
pub record IsTask (words : List (List ℕ)) (task : Task) : Type 0 where
  pub accepted : fault_of program words ≡ []
  pub asks : Asks (values_in words) (option_in (codes "blobs") words)
      (option_in (codes "pages") words) (option_in (codes "format") words) task

-- the words ask for no task
abbrev pub NoTask : List (List ℕ) → Type 0
NoTask words = (task : Task) → IsTask words task → ⊥
