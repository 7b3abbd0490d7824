-- The held slivers that are collected from payloads, one by one.
use Rattle.wal_reader.proofs.Common.{◌≡◌, ℕ, ◌*◌, ◌<◌, ◌≤◌, List, [], ◌∷◌, ◌++◌, length, map, get_or, slice_index, refl, sym, ap, subst, ◌∙◌, arith, ⊎_elim, All, Contains, Ok, get_or-map, length-map, map-append, Distinct, Primary, row_count, BlobMetadata, Sliver, read_of, HoldsSliver, AreHeld, sliver_bytes, CarriesSliver, Collects, GivesSliver, HasSliver, IndexedSliver, IsMetadataIn, append-nil}
use Rattle.std.proofs.lemmas.Grind.{flat_map-append}
use Rattle.wal_kernel.specs.Region.{region}
use Rattle.wal_evidence.specs.FirstOfEach.{adds, keeps}
use Rattle.wal_evidence.specs.inside.FirstOfEach.{AreTaken}
use Rattle.wal_evidence.proofs.FirstOfEach.{first_taken, full_more, one_taken, takes_all, takes_more}
use Rattle.wal_evidence.proofs.Marked.{known_or_new}
use Rattle.wal_evidence.proofs.Pieces.{piece_at, pieces_long}

abbrev no_sliver : IndexedSliver
no_sliver = record { index = 0; bytes = [] }

-- as many indices as slivers
counted : {is : List ℕ} (slivers : List IndexedSliver) → is ≡ map (λ s. s.index) slivers → length is ≡ length slivers
counted slivers same = ap length same ∙ length-map slivers (λ (x : IndexedSliver). x.index)

module _ (digest : List ℕ → List ℕ) (id : List ℕ) (m : BlobMetadata) where
  pub one_given : (payload : List ℕ) (a b : IndexedSliver) → GivesSliver digest id m payload a → GivesSliver digest id m payload b → a ≡ b
  one_given payload a b is_a is_b = grind (arith, is_a.0, is_b.0)

  -- nothing is collected from no payloads
  pub collects_none : Collects digest id m [] [] []
  collects_none = ([], refl, refl, refl)

  -- one more payload with a sliver that is wanted
  pub collects_taken : (payloads : List (List ℕ)) (payload is js : List ℕ) (index : ℕ) (bytes ks ls : List ℕ) → length is < row_count m.f
      → CarriesSliver digest id m payload index bytes → (Contains is index → ⊥) → ks ≡ is ++ index ∷ [] → ls ≡ js ++ bytes → Collects digest id m payloads is js
      → Collects digest id m (payloads ++ payload ∷ []) ks ls
  collects_taken payloads payload is js index bytes ks ls short carries new ks_are ls_are was =
      let slivers = was.0 in
      let s : IndexedSliver = record { index = index; bytes = bytes } in (
        slivers ++ s ∷ [],
        takes_more (GivesSliver digest id m) (λ x. x.index) (row_count m.f) [] payloads slivers (slivers ++ s ∷ []) payload was.1
            (adds s (omega (arith, short, counted slivers was.2)) carries (rw was.2 at new) refl),
        ks_are ∙ ap (λ (xs : List ℕ). xs ++ index ∷ []) was.2 ∙ sym (map-append (λ (x : IndexedSliver). x.index) slivers (s ∷ [])),
        cc (ls_are, was.3, append-nil bytes, flat_map-append (λ (x : IndexedSliver). x.bytes) slivers (s ∷ [])),
      )

  -- one more payload whose sliver is known, or that has none
  pub collects_passed : (payloads : List (List ℕ)) (payload is js : List ℕ)
      → ((index : ℕ) (bytes : List ℕ) → length is < row_count m.f → CarriesSliver digest id m payload index bytes → Contains is index)
      → Collects digest id m payloads is js → Collects digest id m (payloads ++ payload ∷ []) is js
  collects_passed payloads payload is js known was =
      let slivers = was.0 in (
        slivers,
        takes_more (GivesSliver digest id m) (λ x. x.index) (row_count m.f) [] payloads slivers slivers payload was.1
            (keeps (λ s short carries. rw was.2 at
            (known s.index s.bytes (omega (arith, short, counted slivers was.2)) carries)) refl),
        was.2,
        was.3,
      )

  -- a sliver that is not wanted is known, or not held, or no more are needed
  pub collects_unwanted : (payloads : List (List ℕ)) (payload is js : List ℕ) (index : ℕ) (bytes : List ℕ) → read_of payload ≡ Ok (Sliver id Primary index bytes)
      → (length is < row_count m.f → (Contains is index → ⊥) → HoldsSliver digest m Primary index bytes → ⊥)
      → Collects digest id m payloads is js → Collects digest id m (payloads ++ payload ∷ []) is js
  collects_unwanted payloads payload is js index bytes read unwanted was =
      collects_passed payloads payload is js
      (λ i b short carries.
      let same : (i ≡ index) × (b ≡ bytes) = grind (arith, carries.0, read) in
      rw same.0 (⊎_elim (λ known. known) (λ new. absurd (unwanted short new (rw (same.0, same.1) at carries.1)))
      (known_or_new is index))) was

  -- where there are enough, more payloads add nothing
  pub collects_full : (payloads more : List (List ℕ)) (is js : List ℕ) → row_count m.f ≤ length is → Collects digest id m payloads is js
      → Collects digest id m (payloads ++ more) is js
  collects_full payloads more is js full was =
      let still = full_more (GivesSliver digest id m) (λ x. x.index) (row_count m.f) payloads more was.0
      (omega (arith, full, counted was.0 was.2)) was.1 in
      (was.0, still, was.2, was.3)

  -- payloads have one collection
  pub one_collection : (payloads : List (List ℕ)) (is js ks ls : List ℕ) → Collects digest id m payloads is js → Collects digest id m payloads ks ls
      → (is ≡ ks) × (js ≡ ls)
  one_collection payloads is js ks ls a b =
      let same = one_taken (GivesSliver digest id m) (λ x. x.index) (row_count m.f) one_given [] payloads a.0 b.0 a.1
      b.1 in
      grind (arith, same, a.2, a.3, b.2, b.3)

  -- ---- what is collected

  module _ (payloads : List (List ℕ)) (is js : List ℕ) (was : Collects digest id m payloads is js) where
    -- a sliver that a payload carries
    abbrev IsCarried : IndexedSliver → Type 0
    IsCarried s = (payload : List ℕ) × Contains payloads payload × GivesSliver digest id m payload s

    carried : AreTaken IsCarried (λ x. x.index) (row_count m.f) was.0
    carried = first_taken (GivesSliver digest id m) (λ x. x.index) (row_count m.f) IsCarried payloads was.0 (λ p s there gives. (p, there, gives)) was.1

    count : length is ≡ length was.0
    count = counted was.0 was.2

    -- they are no more than are needed
    pub collects_few : length is ≤ row_count m.f
    collects_few = let few = carried.few in omega (arith, few, count)

    pub collects_distinct : Distinct is
    collects_distinct = subst Distinct (sym was.2) carried.distinct

    -- each is carried by a payload
    at_place : (k : ℕ) (d : ℕ) → k < length is → get_or is k d ≡ (get_or was.0 k no_sliver).index
    at_place k d l =
        ap (λ (xs : List ℕ). get_or xs k d) was.2 ∙ get_or-map (λ (x : IndexedSliver). x.index) was.0 k no_sliver d (omega (arith, l, count))

    pub collects_carried : All (HasSliver digest id m payloads) is
    collects_carried k d l =
        let found = carried.each k no_sliver (omega (arith, l, count)) in
        rw (at_place k d l) (found.1.0, found.0, found.1.1, found.1.2, ((get_or was.0 k no_sliver).bytes, found.2))

    -- each is held, in its place
    holds_at : All (λ s. HoldsSliver digest m Primary s.index s.bytes) was.0
    holds_at k d l = (carried.each k d l).2.1

    lengths : All (λ s. length s.bytes ≡ sliver_bytes m) was.0
    lengths k d l = (holds_at k d l).size

    -- all together are as long as their number says
    pub collects_size : length js ≡ length is * sliver_bytes m
    collects_size = rw (was.3, count) (pieces_long (λ (x : IndexedSliver). x.bytes) (sliver_bytes m) was.0 lengths)

    pub collects_held : (k : ℕ) → k < length is → HoldsSliver digest m Primary (slice_index is k) (region (sliver_bytes m) js k)
    collects_held k l =
        let inside : k < length was.0 = omega (arith, l, count) in
        let piece = piece_at (λ (x : IndexedSliver). x.bytes) (sliver_bytes m) was.0 k no_sliver lengths inside in
        rw (was.3, piece, at_place k 0 l) (holds_at k no_sliver inside)

    -- enough of them are evidence
    pub enough_are_held : length is ≡ row_count m.f → AreHeld digest m is js
    enough_are_held enough =
        record { count = enough; distinct = collects_distinct; size = collects_size ∙ ap (λ (n : ℕ). n * sliver_bytes m) enough; held = collects_held }

    -- where there are too few, each held sliver that a payload carries is among them
    pub collects_all : length is < row_count m.f → (index : ℕ) → HasSliver digest id m payloads index → Contains is index
    collects_all short index has =
        rw was.2 (takes_all (GivesSliver digest id m) (λ x. x.index) (row_count m.f) one_given [] payloads was.0 was.1
        (omega (arith, short, count)) has.1 (record { index = index; bytes = has.4.0 }) (has.0, has.2, has.3) has.4.1)

  -- in other words
  pub held_as : (payloads : List (List ℕ)) (indices joined : List ℕ) (metadata : BlobMetadata) (is js : List ℕ) → Collects digest id m payloads indices joined
      → row_count m.f ≤ length indices → metadata ≡ m → is ≡ indices → js ≡ joined → AreHeld digest metadata is js
  held_as payloads indices joined metadata is js collects enough same_m same_is same_js =
      rw (same_m, same_is, same_js) (enough_are_held payloads indices joined collects
      (omega (arith, collects_few payloads indices joined collects, enough)))

  -- they can be counted
  pub collects_counted : (payloads : List (List ℕ)) (is js : List ℕ) → IsMetadataIn digest id payloads m → Collects digest id m payloads is js → length is ≤ 334
  collects_counted payloads is js one collects =
      omega (arith, collects_few payloads is js collects, one.0.4.1.fit.shape.1)
