-- A put of bytes to a shard that holds what is sound has an answer, or else no two texts collide and yet an identifier has two metadata.
use Rattle.wal_theorem.proofs.Common.{◌≡◌, ◌≢◌, ℕ, List, true, Some, None, IsSome, Ok, refl, sym, ap, subst, ◌∙◌, ⊎_elim, MetaClash, metadata_text, Frame, Metadata, Sliver, Proof, IsFrame, stored_bytes, read_of, read_is, Contents, parts_at, part_at, with_bytes, Log, is_live, PutAnswer, Stored, Held, Unregistered, Unverified, OtherMetadata, Full, Memory, CanBePut, IsAccepted, RestsOnMetadata, Verifies, put_id, put_part, desk_of, is_clash, AllSound, Possible, HasCollision, HasRoom, IsAnswered, surely, then, by_cases, truth, IsPutFrame, IsDigest, IsOneToOne, one_metadata, metadata_of, one_to_one, same_or_not, NoMetadata, AreBytes}
use Rattle.wal_theorem.proofs.ByteRules.{byte_rules}
use Rattle.wal_theorem.proofs.InstanceHoldings.{none_or_some}
use Rattle.wal_theorem.proofs.TextBytes.{proof_of, sliver_of}

-- what follows where no two texts collide, or else there is a collision
pub unless_collision : (digest : List ℕ → List ℕ) → IsDigest digest → (f : ℕ) → (IsOneToOne digest → ⊥) → Possible (HasCollision (byte_rules digest f))
unless_collision digest is f impossible none = impossible (one_to_one digest is (λ left right clash. none (left, right, clash)))

module _ (digest : List ℕ → List ℕ) (is : IsDigest digest) (f : ℕ) where
  abbrev Answer : Log → ℕ → Contents → Frame → Type 0
  Answer log shard old frame = (answer : PutAnswer) × (new : Contents) × (byte_rules digest f).Puts log shard old frame answer new

  module _ (log : Log) (shard : ℕ) (old : Contents) (was : AllSound (byte_rules digest f) shard old) where
    -- a frame that is accepted: a part that is not held is stored, and one that is held stays
    part_answer : (frame : Frame) → IsFrame frame → AreBytes (stored_bytes frame) → IsAccepted digest (desk_of f shard None log) old frame
        → ((text : List ℕ) → part_at old (put_id digest frame) (put_part frame) ≡ Some text → Possible (Answer log shard old frame))
        → Possible (Answer log shard old frame)
    part_answer frame fit are accepted held =
        ⊎_elim
        (λ none. surely (Stored, with_bytes old (put_id digest frame) (put_part frame) (stored_bytes frame), ((fit, (accepted, none, tt, refl)), are)))
        (λ some. held some.0 some.1)
        (none_or_some (part_at old (put_id digest frame) (put_part frame)))

    accepted_answer : (frame : Frame) → IsFrame frame → AreBytes (stored_bytes frame) → IsAccepted digest (desk_of f shard None log) old frame → Possible (Answer log shard old frame)
    accepted_answer (Metadata m) fit are accepted =
        part_answer (Metadata m) fit are accepted (λ text at. ⊎_elim
        (λ same. surely (Held, old, ((fit, (accepted, at ∙ ap Some same, refl)), are)))
        (λ differ.
        then (unless_collision digest is f (λ one. other_metadata one text at differ)) (λ clash.
        let texts : MetaClash = record { left = clash.0; right = clash.1 } in
        surely (OtherMetadata texts, old, ((fit, (accepted, m, text, refl, at, differ, clash.2, refl)), are))))
        (same_or_not text (metadata_text m)))
      where
        other_metadata : IsOneToOne digest → (text : List ℕ) → part_at old (put_id digest (Metadata m)) Metadata ≡ Some text → text ≢ metadata_text m → ⊥
        other_metadata one text at differ =
            let id = put_id digest (Metadata m) in
            let sound = (was id).0.metadata text at in
            let text_is : text ≡ metadata_text sound.0 = cc (at, sound.1.spelled) in
            let bytes = subst AreBytes text_is ((was id).1 Metadata text at) in
            let same = one_metadata digest one sound.0 m sound.2.fit fit bytes are (sym sound.2.identifier) in
            differ (text_is ∙ ap metadata_text same)
    accepted_answer frame fit are accepted = part_answer frame fit are accepted (λ text at. surely (Held, old, ((fit, (accepted, rw at refl, refl)), are)))

    pub every_put : (frame : Frame) → IsFrame frame → AreBytes (stored_bytes frame) → Possible (Answer log shard old frame)
    every_put frame fit are =
        ⊎_elim
        (λ live.
        by_cases (RestsOnMetadata frame × (part_at old (put_id digest frame) Metadata ≡ None))
        (λ lacks. surely (NoMetadata, old, ((fit, (live, lacks.0, lacks.1, refl)), are)))
        (λ has.
        let there : RestsOnMetadata frame → IsSome (part_at old (put_id digest frame) Metadata) =
        λ rests. ⊎_elim (λ none. absurd (has (rests, none))) (λ some. rw some.1) (none_or_some (part_at old (put_id digest frame) Metadata)) in
        by_cases (Verifies digest f shard (parts_at old (put_id digest frame)) frame)
        (λ verified. accepted_answer frame fit are (record { live = live; verified = verified }))
        (λ fails. surely (Unverified, old, ((fit, (live, there, fails, refl)), are)))))
        (λ dead. surely (Unregistered, old, ((fit, (dead, refl)), are)))
        (truth (is_live log (put_id digest frame)))

  -- frames that are read
  stored_read : (bytes : List ℕ) (frame : Frame) → AreBytes bytes → read_of bytes ≡ Ok frame → CanBePut frame → AreBytes (stored_bytes frame)
  stored_read bytes (Metadata m) are reads can = metadata_of bytes m are reads
  stored_read bytes (Sliver id axis index content) are reads can = sliver_of bytes id axis index content are reads
  stored_read bytes (Proof id p) are reads can = proof_of bytes id p are reads
  stored_read bytes _ are reads can = absurd can

  pub put_read : (bytes : List ℕ) (frame : Frame) → AreBytes bytes → IsPutFrame bytes frame → (log : Log) (shard : ℕ) → IsAnswered (byte_rules digest f) log shard frame
  put_read bytes frame are (reads, can) log shard old was =
      every_put log shard old was frame (read_is bytes frame are reads).0 (stored_read bytes frame are reads can)

  -- what is put has room
  pub put_room : (log : Log) (shard : ℕ) (old new : Contents) (frame : Frame) (answer : PutAnswer) → (byte_rules digest f).Puts log shard old frame answer new → HasRoom answer
  put_room log shard old new frame (Full needed free) puts = absurd (let at : None ≡ Some free = puts.0.1.2 in cc)
  put_room log shard old new frame Memory puts = absurd puts.0.1
  put_room log shard old new frame _ puts = tt

  pub put_collides : (log : Log) (shard : ℕ) (old new : Contents) (frame : Frame) (answer : PutAnswer) → (byte_rules digest f).Puts log shard old frame answer new → is_clash answer ≡ true
      → HasCollision (byte_rules digest f)
  put_collides log shard old new frame (OtherMetadata clash) puts e = (clash.left, clash.right, puts.0.1.6)
  put_collides log shard old new frame _ puts e = absurd cc
