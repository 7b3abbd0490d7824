-- What is known of a blob's metadata, and what a recovery comes to.
use Rattle.wal_world.proofs.Common.{◌≡◌, ◌≢◌, inl, inr, ℕ, true, List, Option, Some, None, Result, Ok, Err, IfOk, OnOk, IfSome, IfNone, refl, sym, ap, ◌∙◌, AllocError, BlobId, Axis, Side, BlobMetadata, sliver_symbols, metadata_text, Commits, Reply, is_live, HasMetadata, IsMetadataIn, Parts, Contents, parts_at, HoldsMetadata, kept_sliver, kept_proof, IsOwnMetadata, Members, Network, ledger_of, members_of, with_members, IsNetwork, world_of, contents_at, placed, Taken, World, side_of, is_present, is_correct, contents_of, held, keeps, Knows, KnowsTwo, IsKnown, OwnOpeningsComeTo, rules_of, IsHeldMetadata, IsOnly, RecoversInWorld, AreReplies, RecoverStep, RecoverCollides, RecoveryRuns, IsTaken, Word, Collided}
use Rattle.wal_shape.specs.EncodingProof.{EncodingProof}
use Rattle.wal_event.specs.declared.line.RecoverWord.{RecoverWord}
use Rattle.wal_event.specs.declared.line.RecoverWord.TheVariants as recovering
use Rattle.wal_reader.specs.Carried.{IsFirstBadProof, NoBadProof}
use Rattle.wal_recover.specs.declared.outcome.Recovered.TheVariants as recovered
use Rattle.wal_theorem.proofs.InstanceKnown.{known_alone, known_beside, held_alone, none_known, is_unfit}
use Rattle.wal_world.proofs.Placing.{keeps_same, placed_at, places_network, places_world}

-- ---- what a shard holds as metadata

-- what a shard holds as metadata: its own, or none
pub own_is : (digest : List ℕ → List ℕ) (f : ℕ) (id : List ℕ) (p : Parts) (o : Option BlobMetadata) → IfSome o (λ m. IsOwnMetadata digest f id p m) → IfNone o (p.metadata ≡ None)
    → IsHeldMetadata digest f id p o
own_is digest f id p (Some m) a b = a
own_is digest f id p None a b = b

-- the bytes that are held are those of the one that is known
same_text : (parts : Parts) (own : BlobMetadata) → HoldsMetadata parts own → (bytes : List ℕ) → parts.metadata ≡ Some bytes → bytes ≡ metadata_text own
same_text parts own holds bytes at = let e : ◌≡◌ {A = Option (List ℕ)} (Some bytes) (Some (metadata_text own)) = sym at ∙ holds.spelled in cc

-- ---- what is known

module _ (digest : List ℕ → List ℕ) (f : ℕ) (id : BlobId) (parts : Parts) (payloads : List (List ℕ)) where
  -- if no payload carries metadata, what the shard holds is the only one
  pub only_held : (own : BlobMetadata) (o : Option BlobMetadata) → ((m : BlobMetadata) → HasMetadata digest id.0 payloads m → ⊥) → o ≡ Some own → IsHeldMetadata digest f id.0 parts o
      → IsOnly digest id parts payloads own
  only_held own o none is held =
      let h = rw is at held in
      record { known = inr h.held; only = held_alone digest id parts payloads own none h.held; commits = h.commits; same = same_text parts own h.held }

  -- if no payload carries metadata and the shard holds none, none is known
  pub none_both : (o : Option BlobMetadata) → ((m : BlobMetadata) → HasMetadata digest id.0 payloads m → ⊥) → o ≡ None → IsHeldMetadata digest f id.0 parts o
      → (m : BlobMetadata) → Knows digest id parts payloads m → ⊥
  none_both o none is h = none_known digest id parts payloads none (rw is at h)

  -- if the shard holds the metadata that the payloads carry, it is the only one
  pub only_beside : (m own : BlobMetadata) (o : Option BlobMetadata) → IsMetadataIn digest id.0 payloads m → own ≡ m → o ≡ Some own → IsHeldMetadata digest f id.0 parts o
      → IsOnly digest id parts payloads own
  only_beside m own o one same is held =
      let h = rw is at held in
      record {
        known = inr h.held;
        only = λ other knows. known_beside digest id parts payloads m one (rw same at h.held) other knows ∙ sym same;
        commits = h.commits;
        same = same_text parts own h.held;
      }

  -- if the shard holds none, the metadata that the payloads carry is the only one
  pub only_first : (m copy : BlobMetadata) (o : Option BlobMetadata) → IsMetadataIn digest id.0 payloads m → Commits digest id.0 m → copy ≡ m → o ≡ None
      → IsHeldMetadata digest f id.0 parts o → IsOnly digest id parts payloads copy
  only_first m copy o one commits same is held =
      let h = rw is at held in
      rw same (record { known = inl one.0; only = known_alone digest id parts payloads m one h; commits = commits; same = λ bytes e. absurd (cc (h, e)) })

-- ---- what a shard keeps

pub kept_world : (r : Result (Unit {0}) AllocError) (old new : World) (side : Side) (shard : ℕ) (contents want : Contents) → new ≡ keeps old side shard contents → OnOk r (contents ≡ want)
    → OnOk r (new ≡ keeps old side shard want)
kept_world (Ok done) old new side shard contents want is same = is ∙ ap (λ (m : Contents). keeps old side shard m) same
kept_world (Err e) old new side shard contents want is same = tt

-- the network once a shard of a side kept something, if there was memory
pub kept_at : {H : Type 0} (side : Side) (old new : Network H) (was m : Members H) (shard f : ℕ) (r : Result (Unit {0}) AllocError) (kept : Contents → Contents)
    → was ≡ members_of side old.sides → f ≡ (ledger_of old.books).log.f → IsNetwork old → is_present side (world_of old) ≡ true → new ≡ record old { sides = with_members side old.sides m }
    → (x : Contents) × OnOk r (x ≡ kept (contents_at was.shards.items shard)) × (m.shards.items ≡ placed f was.shards.items shard x)
    → IsNetwork new × OnOk r (world_of new ≡ keeps (world_of old) side shard (kept (contents_of (side_of side (world_of old)) shard)))
kept_at {H} side old new was m shard f r kept lent same is there made h =
    let p = placed_at side old new m shard {ledger = ledger_of old.books} (λ log c x. OnOk r (x ≡ kept c)) lent refl (rw made) (rw made) (h.0, h.1, rw same at h.2) in (
      places_network side old new shard p.0 p.2 is there,
      kept_world r (world_of old) (world_of new) side shard p.0 (kept (contents_of (side_of side (world_of old)) shard)) (places_world side old new shard p.0 p.2) p.1,
    )

-- ---- the words of a recovery by the one metadata that is known

module _ (digest : List ℕ → List ℕ) (old new : World) (side : Side) (shard : ℕ) (axis : Axis) (id : BlobId) (payloads : List (List ℕ)) (m : BlobMetadata)
    (fit : m.f ≡ old.log.f) (only : IsOnly digest id (held (side_of side old) shard id) payloads m) where
  abbrev was : Contents
  was = contents_of (side_of side old) shard

  known : IsKnown digest old.log.f id (parts_at was id) payloads m
  unfolding held
  known = record { known = only.known; only = only.only; faults = fit }

  pub word_sliver : (bytes : List ℕ) → OwnOpeningsComeTo digest id shard axis payloads m (recovered.Sliver bytes) → new ≡ keeps old side shard (kept_sliver was id m axis bytes)
      → RecoversInWorld digest old side shard axis id payloads (recovering.Sliver bytes) new
  word_sliver bytes comes is = (kept_sliver was id m axis bytes, (m, known, comes, refl), is)

  pub word_inconsistent : (p : EncodingProof) → OwnOpeningsComeTo digest id shard axis payloads m (recovered.Inconsistent p) → new ≡ keeps old side shard (kept_proof was id m p)
      → RecoversInWorld digest old side shard axis id payloads recovering.Inconsistent new
  word_inconsistent p comes is = (kept_proof was id m p, (m, known, p, comes, refl), is)

  pub word_proof : (have : ℕ) (p : EncodingProof) → OwnOpeningsComeTo digest id shard axis payloads m (recovered.Short have) → IsFirstBadProof digest id.0 m payloads p
      → new ≡ keeps old side shard (kept_proof was id m p) → RecoversInWorld digest old side shard axis id payloads recovering.Proof new
  word_proof have p comes first is = (kept_proof was id m p, (m, known, have, comes, p, first, refl), is)

  pub word_short : (have need : ℕ) → OwnOpeningsComeTo digest id shard axis payloads m (recovered.Short have) → NoBadProof digest id.0 m payloads → need ≡ sliver_symbols axis m.f
      → new ≡ old → RecoversInWorld digest old side shard axis id payloads (recovering.Short have need) new
  word_short have need comes none needs is = (was, (m, known, comes, none, needs, refl), is ∙ sym (keeps_same side old shard))

-- ---- and where none is known that fits

pub word_absent : (digest : List ℕ → List ℕ) (old : World) (side : Side) (shard : ℕ) (axis : Axis) (id : BlobId) (payloads : List (List ℕ))
    → ((m : BlobMetadata) → Knows digest id (held (side_of side old) shard id) payloads m → m.f ≢ old.log.f) → RecoversInWorld digest old side shard axis id payloads recovering.NoMetadata old
unfolding held
word_absent digest old side shard axis id payloads none = (contents_of (side_of side old) shard, (none, refl), sym (keeps_same side old shard))

-- then no two differ
pub absent_word : (digest : List ℕ → List ℕ) (old : World) (side : Side) (shard : ℕ) (axis : Axis) (id : BlobId) (payloads : List (List ℕ))
    → ((m : BlobMetadata) → Knows digest id (held (side_of side old) shard id) payloads m → ⊥)
    → RecoversInWorld digest old side shard axis id payloads recovering.NoMetadata old × (KnowsTwo digest id (held (side_of side old) shard id) payloads → ⊥)
absent_word digest old side shard axis id payloads none = (word_absent digest old side shard axis id payloads (λ m knows. absurd (none m knows)), λ two. none two.0 two.2)

pub word_unfit : (digest : List ℕ → List ℕ) (old : World) (side : Side) (shard : ℕ) (axis : Axis) (id : BlobId) (payloads : List (List ℕ)) (m : BlobMetadata)
    → IsOnly digest id (held (side_of side old) shard id) payloads m → m.f ≢ old.log.f → RecoversInWorld digest old side shard axis id payloads recovering.NoMetadata old
word_unfit digest old side shard axis id payloads m only unfit =
    word_absent digest old side shard axis id payloads (is_unfit digest id (held (side_of side old) shard id) payloads old.log.f m only.only unfit)

-- ---- the step

module _ (digest : List ℕ → List ℕ) (old new : World) (side : Side) (shard : ℕ) (axis : Axis) (id : BlobId) (replies : List Reply) (payloads : List (List ℕ))
    (correct : is_correct side old shard ≡ true) (live : is_live old.log id ≡ true) (replied : AreReplies (rules_of digest old.log.f) old id axis shard replies payloads) where
  abbrev Two : Type 0
  Two = KnowsTwo digest id (held (side_of side old) shard id) payloads

  runs : (word : RecoverWord) (on : RecoversInWorld digest old side shard axis id payloads word new) → (Two → ⊥) → RecoveryRuns (rules_of digest old.log.f) old side shard axis id replies word on.0
  runs word on one = record { correct = correct; live = live; payloads = payloads; replied = replied; one_metadata = one; recovers = on.1 }

  stays : (contents : Contents) → contents ≡ contents_of (side_of side old) shard → new ≡ keeps old side shard contents → new ≡ old
  stays contents e is = rw e at is ∙ keeps_same side old shard

  word_step : (word : RecoverWord) → RecoversInWorld digest old side shard axis id payloads word new → (Two → ⊥) → RecoverStep (rules_of digest old.log.f) old side shard axis id replies word new
  word_step recovering.NoMetadata on one = (on.0, runs recovering.NoMetadata on one, stays on.0 on.1.1 on.2)
  word_step (recovering.Short have need) on one = (on.0, runs (recovering.Short have need) on one, stays on.0 on.1.5 on.2)
  word_step recovering.Absent on one = absurd on.1
  word_step recovering.Ignored on one = absurd on.1
  word_step recovering.Unregistered on one = absurd on.1
  word_step word on one = (on.0, runs word on one, on.2)

  -- from a state that is the same
  pub taken_step : (mid : World) (r : Result (Taken RecoverWord) AllocError) → mid ≡ old
      → IfOk r (IsTaken digest (λ word. RecoversInWorld digest mid side shard axis id payloads word new × (KnowsTwo digest id (held (side_of side mid) shard id) payloads → ⊥))
      (KnowsTwo digest id (held (side_of side mid) shard id) payloads × (new ≡ mid)))
      → IfOk r (IsTaken digest (λ word. RecoverStep (rules_of digest old.log.f) old side shard axis id replies word new)
      (RecoverCollides (rules_of digest old.log.f) old side shard axis id replies × (new ≡ old)))
  taken_step mid (Ok (Word word)) same h = let is = rw same at h in word_step word is.0 is.1
  taken_step mid (Ok (Collided c)) same h =
      let is = rw same at h in
      (is.0, (record { correct = correct; live = live; payloads = payloads; replied = replied; two_metadata = is.1.0 }, is.1.1))
  taken_step mid (Err e) same h = tt
