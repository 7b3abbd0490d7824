-- A put has one answer.
use Rattle.wal_shard.proofs.Common.{false≢true, ◌≡◌, ◌≢◌, ℕ, ◌<◌, false, List, Option, Some, None, IsSome, sym, subst, ◌∙◌, arith, BlobId, BlobMetadata, metadata_text, Frame, Metadata, Sliver, Proof, Parts, Contents, parts_at, part_at, PutAnswer, Stored, Held, Unregistered, NoMetadata, Unverified, OtherMetadata, Full, Memory, PutDesk, IsHeldIn, Puts, PutsOrWants, RestsOnMetadata, Verifies, put_id, put_part}
use Rattle.wal_shape.specs.declared.text.MetaClash.{MetaClash}
use Rattle.wal_shape.specs.declared.part.Part.TheVariants as parts
use Rattle.wal_store.specs.Answer.{HasRoom}

-- an option has one value at most
pub some_is : {A : Type 0} (o : Option A) (x y : A) → o ≡ Some x → o ≡ Some y → x ≡ y
some_is o x y a b = cc

-- an option is not both None and Some
pub none_some : (o : Option (List ℕ)) (x : List ℕ) → o ≡ None → o ≡ Some x → ⊥
none_some o x none some = cc

-- slivers and proofs verify only over held metadata
verified_metadata : (digest : List ℕ → List ℕ) (f shard : ℕ) (p : Parts) (frame : Frame) → Verifies digest f shard p frame → RestsOnMetadata frame → p.metadata ≡ None → ⊥
verified_metadata digest f shard p (Metadata m) v rests none = rests
verified_metadata digest f shard p (Sliver id axis index bytes) v rests none = none_some p.metadata (metadata_text v.0) none v.1.spelled
verified_metadata digest f shard p (Proof id q) v rests none = none_some p.metadata (metadata_text v.0) none v.1.spelled
verified_metadata digest f shard p frame v rests none = absurd v

some_not_none : (o : Option (List ℕ)) → IsSome o → o ≡ None → ⊥
some_not_none o some none = grind arith

held_not_none : (old : Contents) (id : BlobId) (frame : Frame) → IsHeldIn old id frame → part_at old id (put_part frame) ≡ None → ⊥
held_not_none old id (Metadata m) is none = none_some (part_at old id parts.Metadata) (metadata_text m) none is
held_not_none old id frame is none = some_not_none (part_at old id (put_part frame)) is none

-- another metadata is held
other_not_held : (old : Contents) (id : BlobId) (frame : Frame) (m : BlobMetadata) (other : List ℕ) → frame ≡ Metadata m → part_at old id parts.Metadata ≡ Some other → other ≢ metadata_text m
    → IsHeldIn old id frame → ⊥
other_not_held old id frame m other is at apart same =
    apart (some_is (part_at old id parts.Metadata) other (metadata_text m) at (subst (λ (x : Frame). IsHeldIn old id x) is same))

other_not_none : (old : Contents) (id : BlobId) (frame : Frame) (m : BlobMetadata) (other : List ℕ) → frame ≡ Metadata m → part_at old id parts.Metadata ≡ Some other
    → part_at old id (put_part frame) ≡ None → ⊥
other_not_none old id frame m other is at none =
    none_some (part_at old id parts.Metadata) other (subst (λ (x : Frame). part_at old id (put_part x) ≡ None) is none) at

-- a part that has room
room_not_full : (o : Option ℕ) (free needed wanted : ℕ) → o ≡ Some free → needed ≡ wanted → free < needed → HasRoom o wanted → ⊥
room_not_full o free needed wanted is same past room = grind arith

module _ (digest : List ℕ → List ℕ) (d : PutDesk) (old : Contents) (frame : Frame) where
  -- over a keep that never wants memory
  pub never_wants : (answer : PutAnswer) (new : Contents) → PutsOrWants digest false d old frame answer new → Puts digest d old frame answer new
  never_wants Memory new p = absurd (false≢true p.0)
  never_wants answer new p = p

  abbrev no_base : Verifies digest d.f d.shard (parts_at old (put_id digest frame)) frame → RestsOnMetadata frame → part_at old (put_id digest frame) parts.Metadata ≡ None → ⊥
  no_base verified rests none = verified_metadata digest d.f d.shard (parts_at old (put_id digest frame)) frame verified rests none

  -- A PUT HAS ONE ANSWER, and leaves one thing: by any relation that each answer has to itself, and any two collisions to each other
  module _ (Same : PutAnswer → PutAnswer → Type 0) (self : (a : PutAnswer) → Same a a) (texts : (c e : MetaClash) → Same (OtherMetadata c) (OtherMetadata e)) where
    same_full : (o : Option ℕ) (free other needed more wanted : ℕ) → o ≡ Some free → o ≡ Some other → needed ≡ wanted → more ≡ wanted
        → Same (Full needed free) (Full more other)
    same_full o free other needed more wanted is also same equal =
        rw (← some_is o free other is also, same, equal) (self (Full wanted free))

    -- a put has one answer and one result
    pub puts_once : (a b : PutAnswer) (x y : Contents) → Puts digest d old frame a x → Puts digest d old frame b y → Same a b × (x ≡ y)
    puts_once Memory b x y p q = absurd p
    puts_once a Memory x y p q = absurd q
    puts_once Unregistered Unregistered x y p q = (self Unregistered, p.1 ∙ sym q.1)
    puts_once Unregistered b x y p q = absurd cc
    puts_once a Unregistered x y p q = absurd cc
    puts_once NoMetadata NoMetadata x y p q = (self NoMetadata, p.3 ∙ sym q.3)
    puts_once NoMetadata Unverified x y p q = absurd (some_not_none (part_at old (put_id digest frame) parts.Metadata) (q.1 p.1) p.2)
    puts_once Unverified NoMetadata x y p q = absurd (some_not_none (part_at old (put_id digest frame) parts.Metadata) (p.1 q.1) q.2)
    puts_once NoMetadata b x y p q = absurd (no_base q.0.verified p.1 p.2)
    puts_once a NoMetadata x y p q = absurd (no_base p.0.verified q.1 q.2)
    puts_once Unverified Unverified x y p q = (self Unverified, p.3 ∙ sym q.3)
    puts_once Unverified b x y p q = absurd (p.2 q.0.verified)
    puts_once a Unverified x y p q = absurd (q.2 p.0.verified)
    puts_once (OtherMetadata c) (OtherMetadata e) x y p q = (texts c e, p.7 ∙ sym q.7)
    puts_once (OtherMetadata c) Held x y p q = absurd (other_not_held old (put_id digest frame) frame p.1 p.2 p.3 p.4 p.5 q.1)
    puts_once Held (OtherMetadata e) x y p q = absurd (other_not_held old (put_id digest frame) frame q.1 q.2 q.3 q.4 q.5 p.1)
    puts_once (OtherMetadata c) b x y p q = absurd (other_not_none old (put_id digest frame) frame p.1 p.2 p.3 p.4 q.1)
    puts_once a (OtherMetadata e) x y p q = absurd (other_not_none old (put_id digest frame) frame q.1 q.2 q.3 q.4 p.1)
    puts_once Held Held x y p q = (self Held, p.2 ∙ sym q.2)
    puts_once Held b x y p q = absurd (held_not_none old (put_id digest frame) frame p.1 q.1)
    puts_once a Held x y p q = absurd (held_not_none old (put_id digest frame) frame q.1 p.1)
    puts_once Stored Stored x y p q = (self Stored, p.3 ∙ sym q.3)
    puts_once Stored (Full needed free) x y p q = absurd (room_not_full _ free needed _ q.2 q.3 q.4 p.2)
    puts_once (Full needed free) Stored x y p q = absurd (room_not_full _ free needed _ p.2 p.3 p.4 q.2)
    puts_once (Full needed free) (Full more other) x y p q = (same_full _ free other needed more _ p.2 q.2 p.3 q.3, p.5 ∙ sym q.5)
