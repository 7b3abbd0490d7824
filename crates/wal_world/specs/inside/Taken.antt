-- The result of an event that may end in a collision.
use Rattle.std.specs.Prelude.{◌≡◌, ℕ, List, ⊤}
use Rattle.wal_tree.specs.Collision.{IsCollision}
use Rattle.wal_event.specs.declared.line.SendWord.{SendWord}
use Rattle.wal_event.specs.declared.line.SendWord.TheVariants as sending
use Rattle.wal_shard.specs.declared.answers.PutAnswer.{PutAnswer}
use Rattle.wal_shard.specs.declared.answers.PutAnswer.TheVariants as putting
use Rattle.wal_world.specs.declared.taken.Taken.{Taken}
use Rattle.wal_world.specs.declared.taken.Taken.TheVariants as taken

-- a word of which this is true; or two texts with one digest, and that is true
abbrev pub IsTaken : {W : Type 0} → (List ℕ → List ℕ) → (W → Type 0) → Type 0 → Taken W → Type 0
IsTaken digest Says Collides (taken.Word word) = Says word
IsTaken digest Says Collides (taken.Collision collision) =
    IsCollision digest collision.left collision.right × Collides

-- a shard without a limit, for which there is memory, answered
abbrev pub IsAnswered : PutAnswer → Type 0
IsAnswered (putting.Full needed free) = ⊥
IsAnswered putting.Memory = ⊥
IsAnswered _ = ⊤

-- what is said of its answer
abbrev pub Tells : PutAnswer → Taken SendWord → Type 0
Tells putting.Stored (taken.Word sending.Stored) = ⊤
Tells putting.Held (taken.Word sending.Held) = ⊤
Tells putting.Unregistered (taken.Word sending.Unregistered) = ⊤
Tells putting.NoMetadata (taken.Word sending.NoMetadata) = ⊤
Tells putting.Unverified (taken.Word sending.Unverified) = ⊤
Tells (putting.OtherMetadata clash) (taken.Collision collision) =
    (collision.left ≡ clash.left) × (collision.right ≡ clash.right)
Tells _ _ = ⊥
