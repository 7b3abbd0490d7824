-- The rules of the world where all texts are of bytes: they have the same laws, and each of their steps is one of the world.
use Rattle.wal_theorem.proofs.Common.{◌≡◌, ℕ, ◌≤◌, List, length, All, Some, None, subst, inl, inr, BlobId, Axis, Part, BlobMetadata, held_index, metadata_text, proof_text, sliver_part, bytes_of_part, bytes_within, Basis, Slivers, Evidence, Verdict, stored_bytes, ReadWord, RecoverWord, openings_in, IsDrawnFrom, IsEvidenceFor, Parts, no_parts, with_part, Contents, parts_at, with_bytes, kept, put_id, put_part, Judged, Rules, Laws, AllSound, Helped, forgotten, PutsFrame, ReadsTo, Knows, RecoversTo, rules_of, IsOfBytes, BasisOfBytes, FirstOfBytes, metadata_carried, sliver_symbols, arith, Metadata, Proof, Bytes, Reject, Inconsistent, Sliver, AreBytes}
use Rattle.wal_theorem.proofs.InstanceHoldings.{each_put, kept_holds}
use Rattle.wal_theorem.proofs.InstancePuts.{by_put}
use Rattle.wal_theorem.proofs.InstanceRecoveries.{given_sliver}
use Rattle.wal_theorem.proofs.InstanceLaws.{laws_of}
use Rattle.wal_theorem.proofs.TextBytes.{openings_carried, proof_bytes, proof_carried, taken_bytes}

-- what is put, what a recovery and a read are given, what is held and what was answered are bytes
abbrev pub byte_rules : (List ℕ → List ℕ) → ℕ → Rules
byte_rules digest f = record (rules_of digest f) {
  Puts = λ log shard old frame answer new. PutsFrame digest f log shard old frame answer new × AreBytes (stored_bytes frame);
  Reads = λ id payloads word evidence. ReadsTo digest id payloads word evidence × All AreBytes payloads;
  Recovers = λ id shard axis old payloads word new. RecoversTo digest f id shard axis old payloads word new × All AreBytes payloads;
  IsBacked = λ id first. (rules_of digest f).IsBacked id first × FirstOfBytes first;
  IsSound = λ id shard held. (rules_of digest f).IsSound id shard held × IsOfBytes held;
}

-- ---- one part more

none_bytes : IsOfBytes no_parts
none_bytes part text at = absurd (grind arith)

forgotten_bytes : (p : Parts) → IsOfBytes p → IsOfBytes (forgotten p)
forgotten_bytes p are part text at = are part text (grind arith)

more_bytes : (p : Parts) (part : Part) (bytes : List ℕ) → IsOfBytes p → AreBytes bytes → IsOfBytes (with_part p part (Some bytes))
more_bytes p part bytes was are other text at i = let were = was other text in grind (arith, are i)

-- all that a shard holds is bytes
abbrev AllOfBytes : Contents → Type 0
AllOfBytes contents = (q : BlobId) → IsOfBytes (parts_at contents q)

put_bytes : (m : Contents) (id : BlobId) (part : Part) (bytes : List ℕ) → AllOfBytes m → AreBytes bytes → AllOfBytes (with_bytes m id part bytes)
put_bytes m id part bytes was are = each_put (λ q p. IsOfBytes p) m id part bytes was (more_bytes (parts_at m id) part bytes (was id) are)

keep_bytes : (m : Contents) (id : BlobId) (part : Part) (bytes : List ℕ) → AllOfBytes m → AreBytes bytes → AllOfBytes (kept m id part bytes)
keep_bytes m id part bytes was are = kept_holds AllOfBytes m id part bytes was (λ none. put_bytes m id part bytes was are)

-- ---- recoveries

module _ (digest : List ℕ → List ℕ) (f : ℕ) (id : BlobId) (shard : ℕ) (old : Contents) (was : AllSound (byte_rules digest f) shard old) (payloads : List (List ℕ)) (are : All AreBytes payloads) where
  held_bytes : AllOfBytes old
  held_bytes q = (was q).1

  -- a metadata that is known
  pub known_bytes : (m : BlobMetadata) → Knows digest id (parts_at old id) payloads m → AreBytes (metadata_text m)
  known_bytes m (inl found) = metadata_carried digest id.0 payloads m are found
  known_bytes m (inr holds) = held_bytes id Metadata (metadata_text m) holds.spelled

  -- what is kept beside it
  both_kept : (m : BlobMetadata) → Knows digest id (parts_at old id) payloads m → (part : Part) (bytes : List ℕ)
      → AreBytes bytes
      → AllOfBytes (kept (kept old id Metadata (metadata_text m)) id part bytes)
  both_kept m known part bytes =
      keep_bytes (kept old id Metadata (metadata_text m)) id part bytes
      (keep_bytes old id Metadata (metadata_text m) held_bytes (known_bytes m known))

  recovered_bytes : (axis : Axis) (new : Contents) (word : RecoverWord) → RecoversTo digest f id shard axis old payloads word new → AllOfBytes new
  recovered_bytes axis new (Sliver bytes) r =
      let sliver = given_sliver digest f id shard old (λ q. (was q).0) payloads r.0 r.1 axis bytes r.2 in
      let text = subst AreBytes sliver.is_word.begins (bytes_of_part _ 0 sliver.word (bytes_within sliver.word sliver.is_word.coded.fits)) in
      rw r.3 (both_kept r.0 r.1.known (sliver_part axis) bytes text)
  recovered_bytes axis new Inconsistent r =
      let index = held_index r.0.format r.0.f axis shard in
      let openings = openings_in id.0 axis index payloads in
      let taken =
      taken_bytes digest r.0 axis index (sliver_symbols axis r.0.f) openings r.3.taken
      (openings_carried id.0 axis index payloads are) r.3.takes in
      let text : AreBytes (proof_text r.2) =
      rw r.3.comes.0 (proof_bytes (record { axis = axis; index = index; openings = r.3.taken }) taken) in
      rw r.4 (both_kept r.0 r.1.known Proof (proof_text r.2) text)
  recovered_bytes axis new Proof r =
      rw r.6 (both_kept r.0 r.1.known Proof (proof_text r.4) (proof_carried digest id.0 r.0 payloads r.4 are r.5))
  recovered_bytes axis new _ r = let same : new ≡ old = grind arith in rw same held_bytes

-- ---- reads

drawn_bytes : (digest : List ℕ → List ℕ) (id : List ℕ) (payloads : List (List ℕ)) (m : BlobMetadata) (b : Basis) → All AreBytes payloads → IsDrawnFrom digest id payloads m b → BasisOfBytes b
drawn_bytes digest id payloads m (Slivers indices joined) are drawn = tt
drawn_bytes digest id payloads m (Proof p) are drawn = proof_carried digest id m payloads p are drawn.2

evidence_bytes : (digest : List ℕ → List ℕ) (id : List ℕ) (payloads : List (List ℕ)) (verdict shown : Verdict) (e : Evidence) → All AreBytes payloads
    → IsEvidenceFor digest id payloads verdict (Some e) → FirstOfBytes (Judged e shown)
evidence_bytes digest id payloads verdict shown e are (x, same, is, judged, one, drawn) =
    let e_is : e ≡ x = cc in
    rw e_is
    (metadata_carried digest id payloads x.metadata are one.0, drawn_bytes digest id payloads x.metadata x.basis are drawn)

read_bytes : (digest : List ℕ → List ℕ) (id : BlobId) (payloads : List (List ℕ)) (word : ReadWord) (e : Evidence) (shown : Verdict) → All AreBytes payloads
    → ReadsTo digest id payloads word (Some e) → FirstOfBytes (Judged e shown)
read_bytes digest id payloads (Bytes bytes) e shown are r = evidence_bytes digest id.0 payloads _ shown e are r.1
read_bytes digest id payloads Reject e shown are r = evidence_bytes digest id.0 payloads _ shown e are r.1
read_bytes digest id payloads word e shown are r = absurd (let f : Some e ≡ None = r.1 in cc)

-- ---- the laws

pub byte_laws : (digest : List ℕ → List ℕ) → ((text : List ℕ) → length (digest text) ≡ 32) → (f : ℕ) → f ≤ 333 → Laws (byte_rules digest f)
byte_laws digest size f few =
    let l = laws_of digest size f few in
    let b = byte_rules digest f in
    let plain : (shard : ℕ) (contents : Contents) → AllSound b shard contents → AllSound (rules_of digest f) shard contents = λ shard contents was q. (was q).0 in
    let helper : (id : BlobId) (axis : Axis) (shard : ℕ) (payloads : List (List ℕ)) (s : ℕ) (p : Parts) → Helped b id axis shard payloads s p
    → Helped (rules_of digest f) id axis shard payloads s p = λ id axis shard payloads s p h. record { sound = h.sound.0; reply = h.reply; symbols = h.symbols; replied = h.replied } in
    record {
      nothing_sound = λ id shard. (l.nothing_sound id shard, none_bytes);
      put_sound = λ log shard old new frame answer puts was q. (
        l.put_sound log shard old new frame answer puts.0 (plain shard old was) q,
        by_put AllOfBytes digest f log shard old new frame answer (λ x. (was x).1)
            (λ accepted none. put_bytes old (put_id digest frame) (put_part frame) (stored_bytes frame) (λ x. (was x).1) puts.1) puts.0.1 q,
      );
      recover_sound = λ id shard axis old new payloads word r one was q.
          (l.recover_sound id shard axis old new payloads word r.0 one (plain shard old was) q, recovered_bytes digest f id shard old was payloads r.1 axis new word r.0 q);
      forget_sound = λ id shard p was. (l.forget_sound id shard p was.0, forgotten_bytes p was.1);
      put_adds = λ log shard old new frame answer puts. l.put_adds log shard old new frame answer puts.0;
      recover_adds = λ id shard axis old new payloads word r. l.recover_adds id shard axis old new payloads word r.0;
      recover_commits = λ id shard axis old new payloads bytes r one was. l.recover_commits id shard axis old new payloads bytes r.0 one (plain shard old was);
      refutes = λ id shard p was. l.refutes id shard p was.0;
      read_backed = λ id payloads word evidence told r tells. (l.read_backed id payloads word evidence told r.0 tells, read_bytes digest id payloads word evidence told r.1 r.0);
      write_backed = λ format blob id message is. (l.write_backed format blob id message is, tt);
      read_completes = λ id payloads word evidence heard enough replied r.
          l.read_completes id payloads word evidence heard enough
          (λ s lt h. let one = replied s lt h in (one.0, record { sound = one.1.sound.0; settles = one.1.settles; replied = one.1.replied })) r.0;
      secondary_recovers = λ id shard old new payloads word heard enough helped inside was one r.
          l.secondary_recovers id shard old new payloads word heard enough (λ s lt h. let x = helped s lt h in (x.0, x.1, helper id _ shard payloads s x.0 x.2))
          inside (plain shard old was) one r.0;
      primary_recovers = λ id shard old new payloads word heard enough helped inside was one r.
          l.primary_recovers id shard old new payloads word heard enough (λ s lt h. let x = helped s lt h in (x.0, x.1, helper id _ shard payloads s x.0 x.2))
          inside (plain shard old was) one r.0;
    }
