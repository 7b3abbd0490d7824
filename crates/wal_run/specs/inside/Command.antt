-- What serves private functions and proofs beside Command.
use Rattle.std.specs.Prelude.{ℕ, List, ◌++◌}
use Rattle.wal_shape.specs.Metadata.{BlobMetadata}
use Rattle.wal_tree.specs.Collision.{IsCollision}
use Rattle.wal_run.specs.Lines.{collision_text}
use Rattle.wal_run.specs.Command.{Recorded, Content, Command}

-- payloads with the one metadata that they carry
abbrev pub recorded : List (List ℕ) → BlobMetadata → Recorded
recorded payloads metadata = record { payloads = payloads; metadata = metadata }

-- the status and the text for what an input spells
pub data Told (digest : List ℕ → List ℕ) (command : Command) (content : Content command.grammar) : ℕ
    → List ℕ
    → Type 0 where
  succeeds : (text : List ℕ) → command.Succeeds content text → Told digest command content 0 text
  rejects : (text : List ℕ) → command.Rejects content text → Told digest command content 3 text
  lacks : (text : List ℕ) → command.Lacks content text → Told digest command content 4 text
  misreads : (text : List ℕ) → command.Misreads content text → Told digest command content 8 text
  collides : (left right front : List ℕ) → IsCollision digest left right
      → command.Collides content left right front
      → Told digest command content 10 (front ++ collision_text left right)
