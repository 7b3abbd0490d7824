-- Lists of pairs in which no identifier is twice, what is kept in one, and gets that keep it sound.
use Rattle.wal_gateway.proofs.Common.{◌≡◌, ℕ, ◌-◌, ◌≤◌, true, List, ◌∷◌, take, Some, None, refl, sym, ap, arith, lookup, remove_entry, LruCache, promoted, put_entries, Contains-lookup_entry, BlobId, id_eq, CheckedBlob, Option, ◌∙◌, option_map, option_map_or, lookup_entry, zero, suc, ◌+◌, false, [], length, AllByRecursion, IsDistinct, keys_of, length-take, subst, ⊎_elim, lru_cache, Contains-lookup, Contains-promoted, Contains-take, Contains-cons, BlobShape, BlobMetadata, Basis, Slivers, Proof, Evidence, IsJudgedBy, Outcome, HasEvidence, AreDigestedForEvidence, ContradictsBlob, Cache, blob_with, entered, kept_blob, used, AreChecked, AreDigestedForKept, ContradictsKept, IsChecked, IsSoundCache, MatchOption, Contains-nil, Decides, IsMetadataIn, IsOutcome, GetAnswer, AnswersGet, AnswersAll, Get, Hits, Leaves, Misses}
use Rattle.std.specs.Cmp.Lexicographic.{same_text}
use Rattle.std.proofs.lemmas.Cmp.{nat_list_eq_equiv}
use Rattle.lru.proofs.Pairs.{lookup-lookup_entry}
use Rattle.wal_commit.specs.Identifier.{Commits, IsIdentifierOf, identifier_of}
use Rattle.wal_extract.proofs.Contradictions.{fits}
use Rattle.wal_evidence.specs.declared.evidence.Verdict.TheVariants as told
use Rattle.wal_reader.specs.declared.outcome.Outcome.TheVariants as read

-- identifiers with the same bytes are one
pub id_same : (a b : BlobId) → id_eq a b ≡ true → a ≡ b
id_same a b same = let of_text : List ℕ → BlobId = λ text. record { 0 = text } in ap of_text (same_text a.0 b.0 (sym same))

-- an identifier is itself
pub id_itself : (a : BlobId) → id_eq a a ≡ true
id_itself a = nat_list_eq_equiv.refl a.0

module _ (id : BlobId) (pairs : List (BlobId × CheckedBlob)) where
  -- the pair of an identifier goes to the front
  pub promoted_used : (blob : CheckedBlob) → lookup (id_eq id) pairs ≡ Some blob → promoted (id_eq id) pairs ≡ (id, blob) ∷ remove_entry (id_eq id) pairs
  promoted_used blob found = by (lookup_entry (id_eq id) pairs) refl (lookup-lookup_entry (id_eq id) pairs ∙ found)
    where
      by : (o : Option (BlobId × CheckedBlob)) → lookup_entry (id_eq id) pairs ≡ o → option_map (λ e. e.1) o ≡ Some blob
          → option_map_or (λ e. e ∷ remove_entry (id_eq id) pairs) o pairs ≡ (id, blob) ∷ remove_entry (id_eq id) pairs
      by None is value = cc
      by (Some (key, held)) is value = cc (id_same id key (Contains-lookup_entry (id_eq id) pairs (key, held) is).1, value)

one_before : (n : ℕ) (pair : BlobId × CheckedBlob) (pairs : List (BlobId × CheckedBlob)) → 1 ≤ n → pair ∷ take (n - 1) pairs ≡ take n (pair ∷ pairs)
one_before n pair pairs some = grind arith

-- a pair whose identifier is new goes to the front, and the last one beyond the capacity goes
pub put_entered : (cache : LruCache BlobId CheckedBlob) (id : BlobId) (blob : CheckedBlob) → lookup (id_eq id) cache.entries ≡ None → 1 ≤ cache.cap
    → put_entries id_eq cache id blob ≡ take cache.cap ((id, blob) ∷ cache.entries)
put_entered cache id blob new some =
    grind (arith, lookup-lookup_entry (id_eq id) cache.entries, one_before cache.cap (id, blob) cache.entries some)

-- ---- lists of pairs in which no identifier is twice, and how long they are

-- what holds of each identifier holds without a pair, and of the first pairs
keys_removed : (P : BlobId → Type 0) (id : BlobId) (pairs : List (BlobId × CheckedBlob)) → AllByRecursion P (keys_of pairs) → AllByRecursion P (keys_of (remove_entry (id_eq id) pairs))
keys_removed P id [] all = tt
keys_removed P id (pair ∷ pairs) all = grind (arith, keys_removed P id pairs all.1)

keys_taken : (P : BlobId → Type 0) (n : ℕ) (pairs : List (BlobId × CheckedBlob)) → AllByRecursion P (keys_of pairs) → AllByRecursion P (keys_of (take n pairs))
keys_taken P zero pairs all = tt
keys_taken P (suc n) [] all = tt
keys_taken P (suc n) (pair ∷ pairs) all = (all.0, keys_taken P n pairs all.1)

module _ (id : BlobId) where
  abbrev IsOther : BlobId → Type 0
  IsOther key = id_eq id key ≡ false

  -- an identifier that is not found is none of them
  pub none_other : (pairs : List (BlobId × CheckedBlob)) → lookup (id_eq id) pairs ≡ None → AllByRecursion IsOther (keys_of pairs)
  none_other [] none = tt
  none_other (pair ∷ pairs) none = grind (arith, none_other pairs)

  -- nor is one whose pair was taken out
  pub removed_other : (pairs : List (BlobId × CheckedBlob)) → IsDistinct id_eq (keys_of pairs) → AllByRecursion IsOther (keys_of (remove_entry (id_eq id) pairs))
  unfolding IsDistinct
  removed_other [] distinct = tt
  removed_other (pair ∷ pairs) distinct =
      let same : id_eq id pair.0 ≡ true → AllByRecursion IsOther (keys_of pairs) = λ is. rw (id_same id pair.0 is) distinct.0 in
      grind (arith, same, removed_other pairs distinct.1)

  pub removed_distinct : (pairs : List (BlobId × CheckedBlob)) → IsDistinct id_eq (keys_of pairs) → IsDistinct id_eq (keys_of (remove_entry (id_eq id) pairs))
  unfolding IsDistinct
  removed_distinct [] distinct = tt
  removed_distinct (pair ∷ pairs) distinct =
      let apart = keys_removed (λ (key : BlobId). id_eq pair.0 key ≡ false) id pairs distinct.0 in
      grind (arith, apart, removed_distinct pairs distinct.1)

  -- one that was found leaves one less
  pub removed_length : (pairs : List (BlobId × CheckedBlob)) (blob : CheckedBlob) → lookup (id_eq id) pairs ≡ Some blob
      → length (remove_entry (id_eq id) pairs) + 1 ≡ length pairs
  removed_length [] blob found = cc
  removed_length (pair ∷ pairs) blob found = grind (arith, removed_length pairs blob)

pub taken_distinct : (n : ℕ) (pairs : List (BlobId × CheckedBlob)) → IsDistinct id_eq (keys_of pairs) → IsDistinct id_eq (keys_of (take n pairs))
unfolding IsDistinct
taken_distinct zero pairs distinct = tt
taken_distinct (suc n) [] distinct = tt
taken_distinct (suc n) (pair ∷ pairs) distinct = (keys_taken (λ (key : BlobId). id_eq pair.0 key ≡ false) n pairs distinct.0, taken_distinct n pairs distinct.1)

pub taken_length : (n : ℕ) (pairs : List (BlobId × CheckedBlob)) → length (take n pairs) ≤ n
taken_length n pairs = omega (arith, length-take n pairs)

-- a pair before others that are not of its identifier
pub distinct_before : (id : BlobId) (blob : CheckedBlob) (pairs : List (BlobId × CheckedBlob)) → AllByRecursion (λ (key : BlobId). id_eq id key ≡ false) (keys_of pairs)
    → IsDistinct id_eq (keys_of pairs) → IsDistinct id_eq (keys_of ((id, blob) ∷ pairs))
unfolding IsDistinct
distinct_before id blob pairs others distinct = (others, distinct)

pub distinct_none : IsDistinct id_eq (keys_of {K = BlobId} {X = CheckedBlob} [])
unfolding IsDistinct
distinct_none = tt

-- ---- each blob in the list has its identifier

module _ (digest : List ℕ → List ℕ) where
  -- a blob that is found is checked
  pub found_checked : (id : BlobId) (pairs : List (BlobId × CheckedBlob)) (blob : CheckedBlob) → AreChecked digest pairs → lookup (id_eq id) pairs ≡ Some blob
      → IsChecked digest id blob
  found_checked id pairs blob all found =
      let has = Contains-lookup (id_eq id) pairs blob found in
      rw (id_same id has.0 has.2) (all (has.0, blob) has.1)

  -- and they are after one was used
  pub checked_promoted : (id : BlobId) (pairs : List (BlobId × CheckedBlob)) → AreChecked digest pairs → AreChecked digest (promoted (id_eq id) pairs)
  checked_promoted id pairs all pair has = all pair (Contains-promoted (id_eq id) pairs pair has)

  -- and after one entered
  pub checked_entered : (n : ℕ) (id : BlobId) (blob : CheckedBlob) (pairs : List (BlobId × CheckedBlob)) → AreChecked digest pairs → IsChecked digest id blob
      → AreChecked digest (take n ((id, blob) ∷ pairs))
  checked_entered n id blob pairs all one pair has =
      ⊎_elim
      (λ same. subst (λ (p : BlobId × CheckedBlob). IsChecked digest p.0 p.1) same one) (all pair)
      (Contains-cons (id, blob) pairs pair (Contains-take n ((id, blob) ∷ pairs) pair has))

  -- with what the cache ensures of its pairs
  pub all_sound : (cache : Cache) (pairs : List (BlobId × CheckedBlob)) (capacity : ℕ) → record { pairs = pairs; capacity = capacity } ≡ cache → AreChecked digest pairs
      → 1 ≤ capacity → IsDistinct id_eq (keys_of pairs) → length pairs ≤ capacity → IsSoundCache digest cache
  all_sound cache pairs capacity is all some distinct short =
      subst (IsSoundCache digest) is (record { checked = all; distinct = distinct; some = some; short = short })

  -- the blob that evidence leads to has its identifier
  identified : (m : BlobMetadata) (basis : Basis) (bytes : List ℕ) → IsJudgedBy digest m basis (told.Bytes bytes)
      → IsIdentifierOf digest m.format m.f bytes (identifier_of digest m)
  identified m (Slivers indices joined) bytes judged =
      rw judged.2.0 judged.2.1
  identified m (Proof p) bytes judged = absurd (let is : told.Bytes bytes ≡ told.Reject = judged in cc)

  -- so it is checked
  pub judged_checked : (id : BlobId) (e : Evidence) (bytes : List ℕ) → Commits digest id.0 e.metadata → IsJudgedBy digest e.metadata e.basis (told.Bytes bytes)
      → IsChecked digest id (blob_with e.metadata bytes)
  judged_checked id e bytes commits judged = record {
    long = fits digest e (record { format = e.metadata.format; f = e.metadata.f; length = e.metadata.length }) bytes bytes (told.Bytes bytes) judged refl refl refl;
    identifier = rw commits.identifier (identified e.metadata e.basis bytes judged);
  }

  -- what a read gives is checked
  pub read_checked : (id : BlobId) (payloads : List (List ℕ)) (outcome : Outcome) (evidence : Option Evidence) (shape : BlobShape) (bytes : List ℕ)
      → HasEvidence digest id.0 payloads outcome evidence → outcome ≡ read.Bytes bytes
      → ((e : Evidence) → evidence ≡ Some e → shape ≡ record { format = e.metadata.format; f = e.metadata.f; length = e.metadata.length })
      → IsChecked digest id (record { shape = shape; bytes = bytes })
  read_checked id payloads outcome evidence shape bytes has is shape_is =
      let here = rw is at has in
      rw (shape_is here.0 here.1) (judged_checked id here.0 bytes here.2.committed here.3)

  -- the invariant after a blob entered
  pub entered_invariant : (blobs new : LruCache BlobId CheckedBlob) (cache : Cache) (id : BlobId) (blob : CheckedBlob) → record { pairs = blobs.entries; capacity = blobs.cap } ≡ cache
      → kept_blob cache id ≡ None → AreChecked digest blobs.entries × (1 ≤ blobs.cap) → IsChecked digest id blob → new ≡ lru_cache (put_entries id_eq blobs id blob) blobs.cap
      → AreChecked digest new.entries × (1 ≤ new.cap)
  entered_invariant blobs new cache id blob is none all one new_is =
      rw (new_is, put_entered blobs id blob (rw (← is) at none) all.1) (checked_entered blobs.cap id blob blobs.entries all.0 one, all.1)

  -- and after one was used
  pub used_invariant : (blobs new : LruCache BlobId CheckedBlob) (id : BlobId) → AreChecked digest blobs.entries × (1 ≤ blobs.cap)
      → new ≡ lru_cache (promoted (id_eq id) blobs.entries) blobs.cap → AreChecked digest new.entries × (1 ≤ new.cap)
  used_invariant blobs new id all new_is = rw new_is (checked_promoted id blobs.entries all.0, all.1)

-- the list after a blob entered
pub entered_shown : (blobs new : LruCache BlobId CheckedBlob) (cache : Cache) (id : BlobId) (blob : CheckedBlob) → record { pairs = blobs.entries; capacity = blobs.cap } ≡ cache
    → kept_blob cache id ≡ None → 1 ≤ blobs.cap → new ≡ lru_cache (put_entries id_eq blobs id blob) blobs.cap
    → record { pairs = new.entries; capacity = new.cap } ≡ entered cache id blob
entered_shown blobs new cache id blob is none some new_is =
    rw (new_is, put_entered blobs id blob (rw (← is) at none) some) (ap (λ (c : Cache). entered c id blob) is)

-- and after one was used
pub used_shown : (blobs new : LruCache BlobId CheckedBlob) (cache : Cache) (id : BlobId) (blob : CheckedBlob) → record { pairs = blobs.entries; capacity = blobs.cap } ≡ cache
    → kept_blob cache id ≡ Some blob → new ≡ lru_cache (promoted (id_eq id) blobs.entries) blobs.cap
    → record { pairs = new.entries; capacity = new.cap } ≡ used cache id blob
used_shown blobs new cache id blob is kept new_is =
    rw (new_is, promoted_used id blobs.entries blob (rw (← is) at kept)) (ap (λ (c : Cache). used c id blob) is)

module _ (digest : List ℕ → List ℕ) where
  -- evidence against a blob in the list contradicts its bytes
  pub contradicts_bytes : (pairs : List (BlobId × CheckedBlob)) (capacity : ℕ) (cache : Cache) (id : BlobId) (e : Evidence) (blob : CheckedBlob) (bytes : List ℕ)
      → record { pairs = pairs; capacity = capacity } ≡ cache → AreChecked digest pairs → ContradictsKept digest cache id e
      → lookup (id_eq id) pairs ≡ Some blob → bytes ≡ blob.bytes → ContradictsBlob digest blob.shape bytes e
  contradicts_bytes pairs capacity cache id e blob bytes is all against found bytes_are =
      let kept : kept_blob cache id ≡ Some blob = rw (← is) found in
      let same : against.blob ≡ blob = cc (against.kept, kept) in
      let checked = found_checked digest id pairs blob all found in
      rw bytes_are (record {
        id = id.0;
        identifier = checked.identifier;
        evidence = against.evidence;
        other = λ judged. against.other (rw same judged);
      })

  -- whose the two texts are, in other words
  pub kept_texts : (pairs : List (BlobId × CheckedBlob)) (capacity : ℕ) (cache : Cache) (id : BlobId) (e : Evidence) (blob : CheckedBlob) (bytes left right : List ℕ)
      → record { pairs = pairs; capacity = capacity } ≡ cache → lookup (id_eq id) pairs ≡ Some blob → bytes ≡ blob.bytes
      → AreDigestedForEvidence digest blob.shape bytes e left right → AreDigestedForKept digest cache id e left right
  kept_texts pairs capacity cache id e blob bytes left right is found bytes_are texts = (
    blob,
    rw (← is) found,
    rw bytes_are at texts,
  )

-- ---- gets keep a list sound

module _ (digest : List ℕ → List ℕ) where
  sound_used : (cache : Cache) (id : BlobId) (blob : CheckedBlob) → IsSoundCache digest cache → kept_blob cache id ≡ Some blob → IsSoundCache digest (used cache id blob)
  sound_used cache id blob sound kept =
      record {
        checked = rw (promoted_used id cache.pairs blob kept) at (checked_promoted digest id cache.pairs sound.checked);
        distinct = distinct_before id blob (remove_entry (id_eq id) cache.pairs) (removed_other id cache.pairs sound.distinct) (removed_distinct id cache.pairs sound.distinct);
        some = sound.some;
        short = omega (arith, removed_length id cache.pairs blob kept, sound.short);
      }

  sound_entered : (cache : Cache) (id : BlobId) (blob : CheckedBlob) → IsSoundCache digest cache → kept_blob cache id ≡ None → IsChecked digest id blob → IsSoundCache digest (entered cache id blob)
  sound_entered cache id blob sound none checked = record {
    checked = checked_entered digest cache.capacity id blob cache.pairs sound.checked checked;
    distinct = taken_distinct cache.capacity ((id, blob) ∷ cache.pairs) (distinct_before id blob cache.pairs (none_other id cache.pairs none) sound.distinct);
    some = sound.some;
    short = taken_length cache.capacity ((id, blob) ∷ cache.pairs);
  }

  -- the bytes that payloads lead to, with the shape of their metadata, are checked
  decided_checked : (id : BlobId) (payloads : List (List ℕ)) (bytes : List ℕ) (m : BlobMetadata) → Decides digest id.0 payloads (told.Bytes bytes) → IsMetadataIn digest id.0 payloads m
      → IsChecked digest id (blob_with m bytes)
  decided_checked id payloads bytes m decides one =
      let same : decides.0 ≡ m = one.1 decides.0 decides.1.0 in
      subst (λ (k : BlobMetadata). IsChecked digest id (blob_with k bytes)) same
      (judged_checked digest id (record { metadata = decides.0; basis = Slivers decides.2 decides.3 }) bytes decides.1.0.4.1 decides.6)

  sound_left : (old new : Cache) (get : Get) (outcome : Outcome) → IsSoundCache digest old → kept_blob old get.id ≡ None → IsOutcome digest get.id.0 get.payloads outcome
      → Leaves digest old get outcome new → IsSoundCache digest new
  sound_left old new get (read.Bytes bytes) sound none is leaves =
      subst (IsSoundCache digest) (sym leaves.2) (sound_entered old get.id (blob_with leaves.0 bytes) sound none (decided_checked get.id get.payloads bytes leaves.0 is leaves.1))
  sound_left old new get outcome sound none is leaves = subst (IsSoundCache digest) (sym leaves) sound

  -- a get
  sound_answer : (old new : Cache) (get : Get) (answer : GetAnswer) → IsSoundCache digest old → AnswersGet digest old get answer new → IsSoundCache digest new
  sound_answer old new get answer sound answers = by (kept_blob old get.id) refl answers
    where
      by : (o : Option CheckedBlob) → kept_blob old get.id ≡ o → MatchOption o (Misses digest old get answer new) (λ blob. Hits old get blob answer new) → IsSoundCache digest new
      by None none misses = sound_left old new get misses.0 sound none misses.1 misses.3
      by (Some blob) kept hits = subst (IsSoundCache digest) (sym hits.1) (sound_used old get.id blob sound kept)

  -- and any list of them
  pub sound_answers : (start : Cache) (gets : List Get) (answers : List GetAnswer) (end : Cache) → AnswersAll digest start gets answers end → IsSoundCache digest start → IsSoundCache digest end
  sound_answers start [] [] end all sound = subst (IsSoundCache digest) (sym all) sound
  sound_answers start (get ∷ gets) (answer ∷ answers) end all sound = sound_answers all.0 gets answers end all.2 (sound_answer start all.0 get answer sound all.1)
  sound_answers start gets answers end all sound = absurd all

  -- an empty list is sound
  pub sound_empty : (capacity : ℕ) → 1 ≤ capacity → IsSoundCache digest (record { pairs = []; capacity = capacity })
  sound_empty capacity some = record { checked = λ pair has. absurd (Contains-nil pair has); distinct = distinct_none; some = some; short = omega arith }
