-- Payloads in which no two metadata differ come to an outcome, with evidence exactly for a verdict.
use Rattle.wal_theorem.proofs.Common.{◌≡◌, ◌≢◌, ◌⊎◌, ℕ, List, [], ◌∷◌, length, map, take, All, Option, Some, None, refl, ap, arith, ⊎_elim, inl, inr, flat_map, cases_lt, All-nil, All-cons, BlobId, row_count, symbol_size, BlobMetadata, IsMetadata, EncodingProof, metadata_text, metadata_text-injective, source_of, through_some, IsIdentifierOf, identifier_of, Slivers, Evidence, Verdict, Judges, some_taken, same_or_not, ReadWord, CarriesBadProof, IsFirst, IsFirstBadProof, NoneIn, Collects, Decides, GivesSliver, HasMetadata, HoldsFew, IndexedSliver, IsEvidenceFor, IsMetadataIn, HasTwo, collects_few, enough_are_held, Possible, IsReadAs, surely, then, by_cases, Bytes, Reject, NoMetadata, Short, Proof, AreBytes}
use Rattle.wal_theorem.proofs.ByteRules.{byte_rules}
use Rattle.wal_theorem.proofs.OneReading.{metadata_fits, held_slivers}

-- metadata that do not differ are the same
pub same_metadata : (a b : BlobMetadata) → IsMetadata a → IsMetadata b → (a ≢ b → ⊥) → a ≡ b
same_metadata a b is_a is_b apart =
    ⊎_elim (λ e. metadata_text-injective a b is_a is_b e) (λ differ. absurd (apart (λ e. differ (ap metadata_text e)))) (same_or_not (metadata_text a) (metadata_text b))

-- the first payload that carries something, or none does
pub first_or_none : {X : Type 0} (Carries : List ℕ → X → Type 0) (payloads : List (List ℕ)) → Possible (((x : X) × IsFirst Carries payloads x) ⊎ NoneIn Carries payloads)
first_or_none {X} Carries [] = surely (inr (All-nil (λ payload. (x : X) → Carries payload x → ⊥)))
first_or_none {X} Carries (p ∷ payloads) =
    by_cases ((x : X) × Carries p x)
    (λ here. surely (inl (here.0, ([], p, payloads, refl, here.1, All-nil (λ payload. (x : X) → Carries payload x → ⊥)))))
    (λ none.
    let None : List ℕ → Type 0 = λ payload. (x : X) → Carries payload x → ⊥ in
    let not_here : None p = λ x carries. none (x, carries) in
    then (first_or_none Carries payloads) (λ rest. ⊎_elim
    (λ (found : (x : X) × IsFirst Carries payloads x).
    let at = found.1 in
    surely (inl (found.0, (p ∷ at.0, at.1, at.2, ap (λ (ps : List (List ℕ)). p ∷ ps) at.3, at.4, All-cons None p at.0 not_here at.5))))
    (λ nowhere. surely (inr (All-cons None p payloads not_here nowhere)))
    rest))

module _ (digest : List ℕ → List ℕ) (f : ℕ) (id : BlobId) (payloads : List (List ℕ)) (are : All AreBytes payloads) where
  abbrev Read : Type 0
  Read = (word : ReadWord) × (evidence : Option Evidence) × IsReadAs (byte_rules digest f) id payloads word evidence

  module _ (m : BlobMetadata) (one : IsMetadataIn digest id.0 payloads m) where
    fit : IsMetadata m
    fit = metadata_fits digest id.0 payloads m one.0

    -- enough slivers lead to a verdict
    judged : (is js : List ℕ) → Collects digest id.0 m payloads is js → length is ≡ row_count m.f → Possible Read
    judged is js collects count =
        let s = symbol_size m.f m.length in
        let held = enough_are_held digest id.0 m payloads is js collects count in
        let found = through_some m.f s is js (held_slivers digest m is js fit held) in
        let blob = take m.length (source_of m.f s found.0) in
        let e : Evidence = record { metadata = m; basis = Slivers is js } in
        let evident : (verdict : Verdict) → Judges digest m is js verdict → IsEvidenceFor digest id.0 payloads verdict (Some e) =
        λ verdict judges. (e, refl, record { committed = one.0.4.1; held = held }, judges, one, collects) in
        let decides : (verdict : Verdict) → Judges digest m is js verdict → Decides digest id.0 payloads verdict =
        λ verdict judges. (m, one, is, js, collects, count, judges) in
        by_cases (IsIdentifierOf digest m.format m.f blob (identifier_of digest m))
        (λ true_blob.
        let judges : Judges digest m is js (Bytes blob) = (found.0, found.1, (refl, true_blob)) in
        surely (Bytes blob, Some e, (((decides (Bytes blob) judges, evident (Bytes blob) judges), are), refl)))
        (λ false_blob.
        let judges : Judges digest m is js Reject = (found.0, found.1, false_blob) in
        surely (Reject, Some e, (((inl (decides Reject judges), evident Reject judges), are), refl)))

    -- too few are enough for a bad proof
    short : (have : ℕ) → HoldsFew digest id.0 m payloads have → Possible Read
    short have few =
        then (first_or_none (CarriesBadProof digest id.0 m) payloads) (λ found. ⊎_elim
        (λ (first : (p : EncodingProof) × IsFirstBadProof digest id.0 m payloads p).
        let p = first.0 in
        let e : Evidence = record { metadata = m; basis = Proof p } in
        let evident : IsEvidenceFor digest id.0 payloads Reject (Some e) =
        (e, refl, record { committed = one.0.4.1; held = first.1.4.1 }, refl, one, (have, few, first.1)) in
        surely (Reject, Some e, (((inr (m, one, have, few, p, first.1), evident), are), refl)))
        (λ none. surely (Short have (row_count m.f), None, ((((m, one, few, refl, none), refl), are), refl)))
        found)

    known : Possible Read
    known =
        then (some_taken (GivesSliver digest id.0 m) (λ (s : IndexedSliver). s.index) (row_count m.f) [] payloads) (λ slivers.
        let is = map (λ (s : IndexedSliver). s.index) slivers.0 in
        let js = flat_map (λ (s : IndexedSliver). s.bytes) slivers.0 in
        let collects : Collects digest id.0 m payloads is js = (slivers.0, slivers.1, refl, refl) in
        let most = collects_few digest id.0 m payloads is js collects in
        ⊎_elim
        (λ few. short (length is) (is, js, collects, refl, few))
        (λ enough. judged is js collects (omega (arith, enough, most)))
        (cases_lt (length is) (row_count m.f)))

  pub every_read : (HasTwo digest id.0 payloads → ⊥) → Possible Read
  every_read two =
      by_cases ((m : BlobMetadata) × HasMetadata digest id.0 payloads m)
      (λ found.
      let m = found.0 in
      let has : HasMetadata digest id.0 payloads m = found.1 in
      known m (
        has,
        λ other also.
            same_metadata other m (metadata_fits digest id.0 payloads other also) (metadata_fits digest id.0 payloads m has) (λ apart. two (other, m, also, has, apart)),
      ))
      (λ none. surely (NoMetadata, None, ((((λ m has. none (m, has)), refl), are), refl)))
