-- A put leaves what a shard holds sound, and only adds to it.
use Rattle.wal_theorem.proofs.Common.{◌≡◌, ℕ, List, None, refl, sym, subst, Frame, Metadata, Sliver, Proof, IsFrame, Contents, parts_at, part_at, with_bytes, Log, PutAnswer, Stored, Memory, stored_bytes, Puts, IsAccepted, put_id, put_part, AreSound, desk_of, AreAbove, PutsFrame, metadata_sound, IsSound, Some, with_part}
use Rattle.wal_theorem.proofs.InstanceHoldings.{above_put}
use Rattle.wal_shard.proofs.HeldLaws.{sliver_then, proof_then}
use Rattle.wal_shard.proofs.Soundness.{put_sound as contents_sound}

-- what follows from a put: it left everything, or it stored a part that was not held
pub by_put : (P : Contents → Type 0) (digest : List ℕ → List ℕ) (f : ℕ) (log : Log) (shard : ℕ) (old new : Contents) (frame : Frame) (answer : PutAnswer)
    → P old
    → (IsAccepted digest (desk_of f shard None log) old frame → part_at old (put_id digest frame) (put_part frame) ≡ None
    → P (with_bytes old (put_id digest frame) (put_part frame) (stored_bytes frame)))
    → Puts digest (desk_of f shard None log) old frame answer new → P new
by_put P digest f log shard old new frame Stored stays more puts = subst P (sym puts.3) (more puts.0 puts.1)
by_put P digest f log shard old new frame Memory stays more puts = absurd puts
by_put P digest f log shard old new frame answer stays more puts = let same : new ≡ old = assumption in subst P (sym same) stays

pub put_adds : (digest : List ℕ → List ℕ) (f : ℕ) (log : Log) (shard : ℕ) (old new : Contents) (frame : Frame) (answer : PutAnswer)
    → PutsFrame digest f log shard old frame answer new → AreAbove old new
put_adds digest f log shard old new frame answer puts =
    by_put (AreAbove old) digest f log shard old new frame answer (λ id part bytes at. at)
    (λ accepted none. above_put old (put_id digest frame) (put_part frame) (stored_bytes frame) none) puts.1

module _ (digest : List ℕ → List ℕ) (f : ℕ) (log : Log) (shard : ℕ) (old : Contents) where
  -- a part that was accepted is sound beside what is held
  part_sound : (frame : Frame) → IsFrame frame → AreSound digest f shard old → IsAccepted digest (desk_of f shard None log) old frame → part_at old (put_id digest frame) (put_part frame) ≡ None
      → IsSound digest f (put_id digest frame).0 shard (with_part (parts_at old (put_id digest frame)) (put_part frame) (Some (stored_bytes frame)))
  part_sound (Metadata m) fit was accepted none =
      let id = put_id digest (Metadata m) in
      metadata_sound digest f shard id.0 (parts_at old id) m (record { fit = fit; identifier = refl }) accepted.verified none (was id)
  part_sound (Sliver id axis index bytes) fit was accepted none = sliver_then digest f shard id _ axis index bytes accepted.verified (was (record { 0 = id }))
  part_sound (Proof id p) fit was accepted none = proof_then digest f shard id _ p accepted.verified fit.1 (was (record { 0 = id }))
  part_sound _ fit was accepted none = absurd accepted.verified

  -- a put of a frame leaves sound contents sound
  pub put_sound : (new : Contents) (frame : Frame) (answer : PutAnswer) → PutsFrame digest f log shard old frame answer new → AreSound digest f shard old → AreSound digest f shard new
  put_sound new frame answer puts was =
      by_put (AreSound digest f shard) digest f log shard old new frame answer was
      (λ accepted none. contents_sound digest f shard old (put_id digest frame) (put_part frame) (stored_bytes frame) was (part_sound frame puts.0 was accepted none)) puts.1
