-- What completed reads and honest writes rest on, and that a read completes that has enough replies.
use Rattle.wal_theorem.proofs.Common.{◌≡◌, ⊎_elim, ℕ, ◌+◌, ◌<◌, ◌≤◌, List, [], length, Bool, true, Option, Some, Contains, refl, arith, BlobId, Format, row_count, BlobMetadata, held_index-primary, Commits, Evidence, Verdict, Frame, Metadata, Sliver, Proof, IsSliver, frame_text, sliver_frame, ReadWord, read_again, CarriesBadProof, NoBadProof, NoneIn, Collects, CarriesMetadata, CarriesSliver, HasMetadata, collects_all, Parts, count_below, committee_size, count_below-some, HoldsMetadata, IsSound, has_proof, primary_reply, Judged, Written, told_by, AreAmong, RepliedTo, IsMessageOf, sliver_short, ReadsTo, IsBackedBy, rules_of, Primary, Bytes, Reject, Short, NoMetadata, one_held, own_metadata, some_of, IsOwnMetadata, unwrap_or}
use Rattle.wal_commit.proofs.Commitments.{honest_metadata}
use Rattle.wal_theorem.proofs.InstanceHoldings.{refuted}
use Rattle.wal_theorem.proofs.InstanceRecoveries.{bad_proof_fits}
use Rattle.wal_theorem.proofs.InstanceReplies.{contains_first, any_of, count_named, id_long, told, shows_metadata, shows_middle, shows_proof, settled_has}

-- ---- what answers rest on

pub read_backed : (digest : List ℕ → List ℕ) (f : ℕ) (id : BlobId) (payloads : List (List ℕ)) (word : ReadWord) (evidence : Evidence) (shown : Verdict)
    → ReadsTo digest id payloads word (Some evidence) → told_by word ≡ Some shown → IsBackedBy digest f id (Judged evidence shown)
read_backed digest f id payloads word evidence shown r is = grind arith

pub write_backed : (digest : List ℕ → List ℕ) (size : (text : List ℕ) → length (digest text) ≡ 32) (f : ℕ) (format : Format) (blob : List ℕ) (id : BlobId) (message : ℕ → List Frame)
    → IsMessageOf digest f format blob id message → IsBackedBy digest f id (Written blob)
write_backed digest size f format blob id message is =
    (format, (is.metadata, is.is_metadata, record { fit = honest_metadata digest size format f blob is.metadata is.is_metadata; identifier = is.identifier }))

-- ---- slivers that are collected

-- where there are too few, all that the payloads carry are collected
pub collects_each : (digest : List ℕ → List ℕ) (id : List ℕ) (m : BlobMetadata) (payloads : List (List ℕ)) (indices joined : List ℕ) → Collects digest id m payloads indices joined
    → length indices < row_count m.f → (x : List ℕ) (index : ℕ) (bytes : List ℕ) → Contains payloads x → CarriesSliver digest id m x index bytes → Contains indices index
collects_each digest id m payloads indices joined collects short x index bytes c carries =
    collects_all digest id m payloads indices joined collects short index (c.0, x, c.1, c.2, (bytes, carries))

-- what no payload carries
pub none_at : {X : Type 0} (Carries : List ℕ → X → Type 0) (payloads : List (List ℕ)) → NoneIn Carries payloads → (payload : List ℕ) (x : X) → Contains payloads payload
    → Carries payload x → ⊥
none_at Carries payloads none payload x c carries =
    none c.0 payload c.1 x (rw c.2 carries)

-- ---- replies of settled shards

module _ (digest : List ℕ → List ℕ) (size : (text : List ℕ) → length (digest text) ≡ 32) (f : ℕ) (few : f ≤ 333) (id : BlobId) (payloads : List (List ℕ)) where
  -- among the payloads is all that a shard tells with its metadata and its proof
  abbrev pub Tells : Parts → List (List ℕ) → Type 0
  Tells p middle = AreAmong (told id.0 p middle) payloads

  -- the metadata that a shard holds is among the payloads
  pub tells_metadata : (p : Parts) (middle : List (List ℕ)) (m : BlobMetadata) → Tells p middle → HoldsMetadata p m → Commits digest id.0 m → HasMetadata digest id.0 payloads m
  tells_metadata p middle m tells holds commits =
      let x = frame_text (Metadata m) in
      any_of (CarriesMetadata digest id.0 m) payloads x (tells x (shows_metadata id.0 p middle m holds)) (read_again (Metadata m) commits.fit, commits)

  -- and so is its proof
  pub tells_proof : (shard : ℕ) (p : Parts) (middle : List (List ℕ)) (m : BlobMetadata) → Tells p middle → IsSound digest f id.0 shard p → HoldsMetadata p m
      → NoBadProof digest id.0 m payloads → has_proof p ≡ true → ⊥
  tells_proof shard p middle m tells sound holds none has =
      let r = refuted digest f id shard p sound has in
      let q = r.2 in
      let x = frame_text (Proof id.0 q) in
      let same = one_held p r.0 m r.1.held holds in
      let reads = read_again (Proof id.0 q) (id_long digest size id.0 r.0 r.1.committed, bad_proof_fits digest r.0 q r.1.committed.fit r.4) in
      none_at (CarriesBadProof digest id.0 m) payloads none x q (tells x (shows_proof id.0 p middle q r.3))
      (reads, rw same at r.4)

  -- a primary sliver that a shard replies is among the payloads
  tells_sliver : (shard : ℕ) (p : Parts) (m : BlobMetadata) (bytes : List ℕ) → shard < committee_size f → Tells p (primary_reply id.0 shard p) → IsSound digest f id.0 shard p
      → IsOwnMetadata digest f id.0 p m → p.primary ≡ Some bytes
      → Contains payloads (sliver_frame id.0 Primary shard bytes) × CarriesSliver digest id.0 m (sliver_frame id.0 Primary shard bytes) shard bytes
  tells_sliver shard p m bytes within tells sound own at =
      let x = sliver_frame id.0 Primary shard bytes in
      let there = shows_middle id.0 p (primary_reply id.0 shard p) x (rw at (contains_first x x [] refl)) in
      let sliver = rw (held_index-primary m.format m.f shard) at (sound.slivers Primary m bytes own.held at) in
      let short = sliver_short Primary m.f m.length (length bytes) own.commits.fit.shape sliver.size in
      let most : shard ≤ 999 = omega (arith, within, few) in
      let fits : IsSliver id.0 shard bytes = record { id_size = id_long digest size id.0 m own.commits; index_most = most; size_most = short } in
      (tells x there, (read_again (Sliver id.0 Primary shard bytes) fits, sliver))

  abbrev Heard : (ℕ → Bool) → Type 0
  Heard heard = (s : ℕ) → s < committee_size f → heard s ≡ true → (parts : Parts) × RepliedTo (rules_of digest f) id payloads s parts

  -- the metadata of a shard that replied
  replier : (s : ℕ) (parts : Parts) → RepliedTo (rules_of digest f) id payloads s parts → (m : BlobMetadata) × IsOwnMetadata digest f id.0 parts m × HasMetadata digest id.0 payloads m
  replier s parts r =
      let own = own_metadata digest f s id.0 parts r.sound (settled_has parts r.settles).0 in
      (own.0, own.1, tells_metadata parts (primary_reply id.0 s parts) own.0 r.replied own.1.held own.1.commits)

  -- some shard replied, and told its metadata
  someone : (heard : ℕ → Bool) → f + 1 ≤ count_below (committee_size f) heard → Heard heard
      → (m : BlobMetadata) × (m.f ≡ f) × HasMetadata digest id.0 payloads m
  someone heard enough replied =
      let one = count_below-some (committee_size f) heard (omega (arith, enough)) in
      let by = replied one.0 one.1 one.2 in
      let own = replier one.0 by.0 by.1 in (own.0, own.1.faults, own.2)

  -- each shard that replied is counted
  counted : (heard : ℕ → Bool) → Heard heard → (m : BlobMetadata) (indices joined : List ℕ) → ((other : BlobMetadata) → HasMetadata digest id.0 payloads other → other ≡ m)
      → Collects digest id.0 m payloads indices joined → length indices < row_count m.f → NoBadProof digest id.0 m payloads → (s : ℕ) → s < committee_size f → heard s ≡ true → Contains indices s
  counted heard replied m indices joined only collects short none s within hears =
      let (parts, r) = replied s within hears in
      let had = replier s parts r in
      let own = rw (only had.0 had.2) at had.1 in
      ⊎_elim
      (λ proof. absurd (tells_proof s parts (primary_reply id.0 s parts) m r.replied r.sound own.held none proof))
      (λ slivers.
      let c = tells_sliver s parts m (unwrap_or parts.primary []) within r.replied r.sound own (some_of parts.primary slivers.0) in
      collects_each digest id.0 m payloads indices joined collects short _ s _ c.0 c.1)
      (settled_has parts r.settles).1

  pub read_completes : (word : ReadWord) (evidence : Option Evidence) (heard : ℕ → Bool) → f + 1 ≤ count_below (committee_size f) heard → Heard heard
      → ReadsTo digest id payloads word evidence → (shown : Verdict) × (told_by word ≡ Some shown)
  read_completes (Bytes bytes) evidence heard enough replied r = (Bytes bytes, refl)
  read_completes Reject evidence heard enough replied r = (Reject, refl)
  read_completes NoMetadata evidence heard enough replied r =
      let own = someone heard enough replied in absurd (r.0 own.0 own.2)
  read_completes (Short have need) evidence heard enough replied r =
      let own = someone heard enough replied in
      let o = r.0 in
      let has = o.2 in
      let short : length has.0 < row_count o.0.f = omega (arith, has.3, has.4) in
      let named =
      count_named (committee_size f) heard has.0 (counted heard replied o.0 has.0 has.1 o.1.1 has.2 short o.4) in
      absurd (omega (arith, enough, named, short, rw (o.1.1 own.0 own.2) at own.1))
