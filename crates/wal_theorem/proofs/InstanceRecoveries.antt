-- What a recovery keeps is sound, is committed, and only adds to what a shard holds.
use Rattle.wal_theorem.proofs.Common.{◌≡◌, arith, inl, inr, ℕ, List, BlobId, Axis, BlobMetadata, IsMetadata, held_index, EncodingProof, IsProof, metadata_text, proof_text, HoldsSliver, Commits, IsBadProof, committed, RecoverWord, Inconsistent, Part, Contents, parts_at, sliver_part, HoldsMetadata, kept, kept_sliver, kept_proof, AreSound, AreAbove, Knows, IsKnown, OwnOpeningsComeTo, HoldsCommitted, CommitsSliver, RecoversTo, Sliver, Metadata, Proof}
use Rattle.wal_recover.proofs.Proved.{proof_fits}
use Rattle.wal_shard.proofs.KeepLaws.{kept_held, kept_metadata_sound, kept_sliver_sound, kept_proof_sound}
use Rattle.wal_theorem.proofs.InstanceHoldings.{above_kept, above_both, held_own}

-- a bad proof for a metadata has a spelling
pub bad_proof_fits : (digest : List ℕ → List ℕ) (m : BlobMetadata) (p : EncodingProof) → IsMetadata m → IsBadProof digest m p → IsProof p
bad_proof_fits digest m p fit bad =
    proof_fits digest m p.axis p.index p.openings fit.shape bad.line.enough

-- ---- what is added

both_above : (old : Contents) (id : BlobId) (m : BlobMetadata) (part : Part) (bytes : List ℕ)
    → AreAbove old (kept (kept old id Metadata (metadata_text m)) id part bytes)
both_above old id m part bytes =
    let mid = kept old id Metadata (metadata_text m) in
    above_both old mid (kept mid id part bytes) (above_kept old id Metadata (metadata_text m))
    (above_kept mid id part bytes)

pub recover_adds : (digest : List ℕ → List ℕ) (f : ℕ) (id : BlobId) (shard : ℕ) (axis : Axis) (old new : Contents) (payloads : List (List ℕ)) (word : RecoverWord)
    → RecoversTo digest f id shard axis old payloads word new → AreAbove old new
recover_adds digest f id shard axis old new payloads (Sliver bytes) r =
    rw r.3 (both_above old id r.0 (sliver_part axis) bytes)
recover_adds digest f id shard axis old new payloads Inconsistent r =
    rw r.4 (both_above old id r.0 Proof (proof_text r.2))
recover_adds digest f id shard axis old new payloads Proof r =
    rw r.6 (both_above old id r.0 Proof (proof_text r.4))
recover_adds digest f id shard axis old new payloads _ r = let same : new ≡ old = grind arith in rw same (λ q part bytes at. at)

-- ---- what is sound

module _ (digest : List ℕ → List ℕ) (f : ℕ) (id : BlobId) (shard : ℕ) (old : Contents) (was : AreSound digest f shard old) where
  -- a metadata that is known is committed
  pub known_commits : (payloads : List (List ℕ)) (m : BlobMetadata) → Knows digest id (parts_at old id) payloads m → Commits digest id.0 m
  known_commits payloads m (inl found) = found.4.1
  known_commits payloads m (inr holds) = (held_own digest f id.0 shard (parts_at old id) (was id) m holds).commits

  module _ (payloads : List (List ℕ)) (m : BlobMetadata) (known : IsKnown digest f id (parts_at old id) payloads m) where
    commits : Commits digest id.0 m
    commits = known_commits payloads m known.known

    -- what is held once the metadata is kept
    abbrev mid : Contents
    mid = kept old id Metadata (metadata_text m)

    mid_sound : AreSound digest f shard mid
    mid_sound = kept_metadata_sound digest f shard old id m commits known.faults was

    -- the metadata that is known is held then
    mid_holds : HoldsMetadata (parts_at mid id) m
    mid_holds =
        kept_held old id m commits.fit
        (λ other at. let s = (was id).metadata other at in cc (s.1.spelled, at, known.only s.0 (inr s.1)))

    -- one more part leaves it held
    held_then : (part : Part) (bytes : List ℕ) → HoldsCommitted digest id (parts_at (kept mid id part bytes) id) m
    held_then part bytes =
        record {
          held = record { fit = mid_holds.fit; spelled = above_kept mid id part bytes id Metadata (metadata_text m) mid_holds.spelled };
          committed = commits;
        }

    -- with the sliver, or a bad proof
    pub sliver_sound : (axis : Axis) (bytes : List ℕ) → HoldsSliver digest m axis (held_index m.format m.f axis shard) bytes
        → AreSound digest f shard (kept_sliver old id m axis bytes)
    sliver_sound axis bytes sliver =
        kept_sliver_sound digest f shard mid id m axis bytes mid_holds sliver mid_sound

    pub proof_sound : (p : EncodingProof) → IsBadProof digest m p → AreSound digest f shard (kept_proof old id m p)
    proof_sound p bad =
        kept_proof_sound digest f shard mid id m p mid_holds bad (bad_proof_fits digest m p commits.fit bad) mid_sound

    -- a sliver that the openings give is committed
    pub given_sliver : (axis : Axis) (bytes : List ℕ) → OwnOpeningsComeTo digest id shard axis payloads m (Sliver bytes)
        → HoldsSliver digest m axis (held_index m.format m.f axis shard) bytes
    given_sliver axis bytes r =
        committed digest m axis (held_index m.format m.f axis shard) r.taken (Sliver bytes) r.comes

  pub recover_sound : (axis : Axis) (new : Contents) (payloads : List (List ℕ)) (word : RecoverWord) → RecoversTo digest f id shard axis old payloads word new
      → AreSound digest f shard new
  recover_sound axis new payloads (Sliver bytes) r =
      rw r.3 (sliver_sound payloads r.0 r.1 axis bytes (given_sliver payloads r.0 r.1 axis bytes r.2))
  recover_sound axis new payloads Inconsistent r = rw r.4 (proof_sound payloads r.0 r.1 r.2 r.3.comes.1)
  recover_sound axis new payloads Proof r = rw r.6 (proof_sound payloads r.0 r.1 r.4 r.5.4.1)
  recover_sound axis new payloads _ r = let same : new ≡ old = grind arith in rw same was

  pub recover_commits : (axis : Axis) (new : Contents) (payloads : List (List ℕ)) (bytes : List ℕ)
      → RecoversTo digest f id shard axis old payloads (Sliver bytes) new → CommitsSliver digest id shard axis bytes (parts_at new id)
  recover_commits axis new payloads bytes r =
      rw r.3 (r.0, held_then payloads r.0 r.1 (sliver_part axis) bytes, given_sliver payloads r.0 r.1 axis bytes r.2)
