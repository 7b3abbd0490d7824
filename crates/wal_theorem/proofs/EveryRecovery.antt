-- A recovery by payloads in which no two metadata differ comes to something.
use Rattle.wal_theorem.proofs.Common.{◌≡◌, ℕ, ◌*◌, ◌<◌, List, [], length, take, All, refl, arith, ⊎_elim, cases_eq, cases_lt, BlobId, Axis, sliver_symbols, symbol_size, BlobMetadata, IsMetadata, held_index, EncodingProof, HasRoot, IsBadProof, some_taken, GivesOpening, Takes, enough, list_held, RecoverWord, CarriesBadProof, IsFirstBadProof, openings_in, Contents, parts_at, kept_sliver, kept_proof, AllSound, Possible, IsFound, surely, then, by_cases, Knows, KnowsTwo, IsKnown, OwnOpeningsComeTo, Inconsistent, Short, Sliver, NoMetadata, Proof, Opening, AreBytes}
use Rattle.wal_theorem.proofs.ByteRules.{byte_rules}
use Rattle.wal_theorem.proofs.EveryRead.{first_or_none, same_metadata}
use Rattle.wal_theorem.proofs.InstanceKnown.{AllKnown, is_known, is_unfit}
use Rattle.wal_theorem.proofs.InstanceRecoveries.{known_commits}
use Rattle.wal_theorem.proofs.LineExists.{line_exists}
use Rattle.wal_theorem.proofs.TextBytes.{openings_carried, taken_bytes}

module _ (digest : List ℕ → List ℕ) (f : ℕ) (id : BlobId) (shard : ℕ) (axis : Axis) (old : Contents) (was : AllSound (byte_rules digest f) shard old)
    (payloads : List (List ℕ)) (are : All AreBytes payloads) where
  abbrev Recovery : Type 0
  Recovery = (word : RecoverWord) × (new : Contents) × (byte_rules digest f).Recovers id shard axis old payloads word new × IsFound word

  fits : (m : BlobMetadata) → Knows digest id (parts_at old id) payloads m → IsMetadata m
  fits m knows = (known_commits digest f id shard old (λ q. (was q).0) payloads m knows).fit

  module _ (m : BlobMetadata) (known : IsKnown digest f id (parts_at old id) payloads m) where
    abbrev index : ℕ
    index = held_index m.format m.f axis shard

    abbrev openings : List Opening
    openings = openings_in id.0 axis index payloads

    -- enough openings give the sliver, or prove bad encoding
    enough_taken : (taken : List Opening) → Takes digest m axis index openings (sliver_symbols axis m.f) taken → length taken ≡ sliver_symbols axis m.f → Possible Recovery
    enough_taken taken takes count =
        let held = list_held digest m axis index openings taken takes in
        let full = enough digest m axis index taken held count in
        let bytes = taken_bytes digest m axis index (sliver_symbols axis m.f) openings taken (openings_carried id.0 axis index payloads are) takes in
        let found = line_exists digest m axis index taken (fits m known.known).shape full (λ k d l. (bytes k d l).symbol) in
        let word = found.0 in
        by_cases (HasRoot digest m axis index word)
        (λ root.
        let bytes = take (sliver_symbols axis m.f * symbol_size m.f m.length) word in
        let comes : OwnOpeningsComeTo digest id shard axis payloads m (Sliver bytes) = record { taken = taken; takes = takes; comes = (word, record { enough = full; through = found.1 }, root, refl) } in
        surely (Sliver bytes, kept_sliver old id m axis bytes, ((m, known, comes, refl), are), tt))
        (λ other.
        let p : EncodingProof = record { axis = axis; index = index; openings = taken } in
        let bad : IsBadProof digest m p = record { word = word; line = record { enough = full; through = found.1 }; root = other } in
        let comes : OwnOpeningsComeTo digest id shard axis payloads m (Inconsistent p) = record { taken = taken; takes = takes; comes = (refl, bad) } in
        surely (Inconsistent, kept_proof old id m p, ((m, known, p, comes, refl), are), tt))

    -- fewer are enough for a bad proof
    few_taken : (taken : List Opening) → Takes digest m axis index openings (sliver_symbols axis m.f) taken → length taken < sliver_symbols axis m.f → Possible Recovery
    few_taken taken takes few =
        let have = length taken in
        let comes : OwnOpeningsComeTo digest id shard axis payloads m (Short have) = record { taken = taken; takes = takes; comes = (refl, few) } in
        then (first_or_none (CarriesBadProof digest id.0 m) payloads) (λ found. ⊎_elim
        (λ (first : (p : EncodingProof) × IsFirstBadProof digest id.0 m payloads p).
        surely (Proof, kept_proof old id m first.0, ((m, known, have, comes, first.0, first.1, refl), are), tt))
        (λ none. surely (Short have (sliver_symbols axis m.f), old, ((m, known, comes, none, refl, refl), are), tt))
        found)

    known_recovery : Possible Recovery
    known_recovery =
        then (some_taken (GivesOpening digest m axis index) (λ (o : Opening). o.cross) (sliver_symbols axis m.f) [] openings) (λ taken.
        let held = list_held digest m axis index openings taken.0 taken.1 in
        let most = held.few in
        ⊎_elim (λ few. few_taken taken.0 taken.1 few) (λ full. enough_taken taken.0 taken.1 (omega (arith, full, most))) (cases_lt (length taken.0) (sliver_symbols axis m.f)))

  pub every_recovery : (KnowsTwo digest id (parts_at old id) payloads → ⊥) → Possible Recovery
  every_recovery two =
      by_cases ((m : BlobMetadata) × Knows digest id (parts_at old id) payloads m)
      (λ found.
      let m = found.0 in
      let all : AllKnown digest id (parts_at old id) payloads m =
      λ other also. same_metadata other m (fits other also) (fits m found.1) (λ apart. two (other, m, also, found.1, apart)) in
      ⊎_elim
      (λ same. known_recovery m (is_known digest id (parts_at old id) payloads f m found.1 all same))
      (λ differ. surely (NoMetadata, old, ((is_unfit digest id (parts_at old id) payloads f m all differ, refl), are), tt))
      (cases_eq m.f f))
      (λ none. surely (NoMetadata, old, (((λ m knows. absurd (none (m, knows))), refl), are), tt))
