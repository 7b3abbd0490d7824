-- Frames on their way to the shards of a committee, and the results of their puts.
use Rattle.std.specs.Prelude.{◌≡◌, ℕ, ◌<◌, ◌≤◌, List, [], map, Option, Some, None, is_some, IfSome}
use Rattle.std.specs.Prelude.{Result, Ok, Err, ⊤}
use Rattle.std.specs.List.{AllByRecursion}
use Rattle.wal_shape.specs.declared.axis.Side.{Side}
use Rattle.wal_shape.specs.declared.shape.Format.{Format}
use Rattle.wal_shape.specs.declared.text.Collision.{Collision}
use Rattle.wal_tree.specs.Collision.{IsCollision}
use Rattle.wal_commit.specs.Identifier.{IsIdentifierOf}
use Rattle.wal_ledger.specs.Shards.{committee_size}
use Rattle.wal_frame.specs.Frame.{Frame, Read, IsFrame, frame_text}
use Rattle.wal_frame.specs.declared.frame.FrameError.{FrameError}
use Rattle.wal_frame.specs.Reading.{read_of}
use Rattle.wal_shard.specs.declared.answers.PutAnswer.{PutAnswer}
use Rattle.wal_shard.specs.declared.answers.PutAnswer.TheVariants as putting
use Rattle.wal_shard.specs.Putting.{CanBePut}
use Rattle.wal_writer.specs.Message.{Written, IsMessageOf, messages_of}
use Rattle.wal_protocol.specs.State.{World, Committee, side_of, with_side}
use Rattle.wal_theorem.specs.Instance.{rules_of}
use Rattle.wal_protocol.specs.Step.{PutsEach}

-- the frame that was read, and the one that bytes are read as
abbrev pub frame_read : Result Frame FrameError → Frame
frame_read (Ok frame) = frame
frame_read (Err fault) = Read []

abbrev pub frame_in : List ℕ → Frame
frame_in bytes = frame_read (read_of bytes)

-- bytes are the spelling of a frame that may be put
pub record SpellsPart (bytes : List ℕ) : Type 0 where
  pub frame : Frame
  pub part : CanBePut frame
  pub fit : IsFrame frame
  pub spelled : bytes ≡ frame_text frame

-- frames to a shard, and those that texts spell
abbrev pub addressed : ℕ → List Frame → List (ℕ × Frame)
addressed shard frames = map (λ frame. (shard, frame)) frames

abbrev pub letters_in : ℕ → List (List ℕ) → List (ℕ × Frame)
letters_in shard texts = map (λ text. (shard, frame_in text)) texts

-- two texts with one digest are told if a put found another metadata held
abbrev pub TellsClash : PutAnswer → Option Collision → Type 0
TellsClash (putting.OtherMetadata clash) (Some collision) =
    (collision.left ≡ clash.left) × (collision.right ≡ clash.right)
TellsClash putting.Stored None = ⊤
TellsClash putting.Held None = ⊤
TellsClash putting.Unregistered None = ⊤
TellsClash putting.NoMetadata None = ⊤
TellsClash putting.Unverified None = ⊤
TellsClash _ _ = ⊥

-- puts of frames to shards of a side, up to the first that finds another metadata held: then two
-- texts have one digest
pub record PutsTo (digest : List ℕ → List ℕ) (old : World) (side : Side)
    (letters : List (ℕ × Frame)) (clash : Option Collision) (new : World) : Type 0 where
  pub mid : Committee
  pub puts : PutsEach (rules_of digest old.log.f) old.log
      (side_of side old) letters (is_some clash) mid
  pub state : new ≡ with_side side old mid
  pub collides : IfSome clash (λ collision. IsCollision digest collision.left collision.right)

-- the result of putting the rest of the letters from here is that of putting all of them from the
-- start
abbrev pub Continues : (List ℕ → List ℕ) → World → List (ℕ × Frame) → Side → World
    → List (ℕ × Frame) → Type 0
Continues digest old letters side here rest =
    (clash : Option Collision) (new : World) → PutsTo digest here side rest clash new
    → PutsTo digest old side letters clash new

-- all that is sent to a shard has a spelling
abbrev pub AreParts : Written → ℕ → Type 0
AreParts written shard = AllByRecursion IsFrame (messages_of written shard)

-- what a writer has made of a blob, for so many faults of a committee
pub record IsStarted (digest : List ℕ → List ℕ) (f : ℕ)
    (format : Format) (blob : List ℕ) (written : Written) : Type 0 where
  pub few : f ≤ 333
  pub faults : written.metadata.f ≡ f
  pub message : IsMessageOf digest f format blob written.id (messages_of written)
  pub identifier : IsIdentifierOf digest format f blob written.id.0
  pub parts : (shard : ℕ) → shard < committee_size f → AreParts written shard
