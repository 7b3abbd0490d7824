-- Payloads tell one thing of a member, and of a bundle's members what is so, unless a column is not its own.
use Rattle.wal_bundle.proofs.Common.{◌≡◌, ℕ, List, inl, inr, Secondary, IsShape, BlobMetadata, CarriesHeldSliver, first_not_none, one_first, IsColumn, ◌⊎◌, ◌*◌, ◌^◌, ◌<◌, ◌≤◌, [], Option, Some, None, length, slice_get, refl, sym, ap, ◌∙◌, arith, ⊎_elim, length-map, slice_get-get_or, mul-le-mul_right, BlobShape, cell_count, shard_count, symbol_size, matrix_bytes-bound, symbol_size-least, IsExtended, metadata_over, same_or_not, HasMetadata, IsMetadataIn, first_two, MemberAnswer, BadIndex, Collision, Member, NoMember, NoMetadata, IsBundleSize, bundle_text, lengths_of, IsOwnColumn, AgreeBelow, AreContraryMembers, ContradictsBundle, IsBundleOf, IsTrueOf, SameMemberAnswer, HasIndex, IsMember, Tells, ◌/◌, IfNone, mul-le-mul_left, row_count, metadata_shown, IsCodedMatrix, identifier_of, identifier_over, NoHeldSliver, openings_in, IsBundle, column_bytes, IsMissing, All, honest_sliver, IsDigest, bytes_of_all, one_metadata, one_sliver, one_to_one}
use Rattle.wal_commit.specs.Held.{HoldsSliver}
use Rattle.wal_recover.proofs.OneRecovery.{committed, one_recovery}
use Rattle.wal_reader.proofs.OneOutcome.{not_two}
use Rattle.wal_shape.specs.declared.opening.Opening.{Opening}
use Rattle.wal_shape.specs.declared.metadata.MetaRef.{MetaRef}
use Rattle.wal_reader.specs.Found.{Finds}
use Rattle.wal_reader.specs.declared.finding.FoundMetadata.{FoundMetadata}
use Rattle.wal_reader.specs.declared.finding.FoundMetadata.TheVariants.{Absent, One, Two}
use Rattle.wal_recover.specs.Recovery.{OpeningsComeTo}
use Rattle.wal_recover.specs.declared.outcome.Recovered.{Recovered}
use Rattle.wal_recover.specs.declared.outcome.Recovered.TheVariants.{Sliver}
use Rattle.wal_tree.specs.Collision.{CanCollide}
use Rattle.wal_tree.specs.Digests.{IsByte}
use Rattle.wal_matrix.proofs.Codewords.{AreBytes}
use Rattle.wal_commit.proofs.MetadataBytes.{honest_bytes}
use Rattle.wal_reader.proofs.PayloadBytes.{metadata_carried}
use Rattle.wal_recover.specs.declared.outcome.Recovered.TheVariants as told
use Rattle.wal_bundle.proofs.Agreement.{not_bad, same_lengths, same_told, one_told}
use Rattle.wal_bundle.proofs.Bundled.{bundle_size, index_there, member_there, one_bundle}

module _ (digest : List ℕ → List ℕ) (id : List ℕ) (m : BlobMetadata) (shape : IsShape m.f m.length) where
  -- the column of an index is one list of bytes
  pub one_column : (payloads : List (List ℕ)) (j : ℕ) (a b : List ℕ) → IsColumn digest id m payloads j a → IsColumn digest id m payloads j b → a ≡ b
  one_column payloads j a b (inl first_a) (inl first_b) =
      one_first (CarriesHeldSliver digest id m Secondary j)
      (λ p x y c d. cc (c.0, d.0)) payloads a b first_a first_b
  one_column payloads j a b (inl first) (inr other) =
      absurd (first_not_none (CarriesHeldSliver digest id m Secondary j) payloads a first other.0)
  one_column payloads j a b (inr other) (inl first) =
      absurd (first_not_none (CarriesHeldSliver digest id m Secondary j) payloads b first other.0)
  one_column payloads j a b (inr other_a) (inr other_b) =
      cc (one_recovery digest m Secondary j _ shape (told.Sliver a) (told.Sliver b) other_a.1 other_b.1)

  -- it is the sliver that the metadata commits
  pub column_held : (payloads : List (List ℕ)) (j : ℕ) (bytes : List ℕ) → IsColumn digest id m payloads j bytes → HoldsSliver digest m Secondary j bytes
  column_held payloads j bytes (inl first) = first.4.1
  column_held payloads j bytes (inr other) =
      committed digest m Secondary j other.1.taken (told.Sliver bytes) other.1.comes

-- ---- payloads tell one thing of a member, and of a bundle's members what is so, unless a column is not its own

-- the source block of a shape is small
pub cells_small : (f long : ℕ) → IsShape f long → cell_count f * symbol_size f long < 2 ^ 32
cells_small f long shape =
    let fewer : cell_count f ≤ shard_count f * shard_count f = omega arith in
    omega (arith, matrix_bytes-bound f long shape, mul-le-mul_right (symbol_size f long) fewer)

-- the metadata that payloads carry has a shape
pub shape_in : (digest : List ℕ → List ℕ) (id : List ℕ) (payloads : List (List ℕ)) (m : BlobMetadata) → HasMetadata digest id payloads m → IsShape m.f m.length
shape_in digest id payloads m has = has.4.1.fit.shape

-- ---- one answer

-- what payloads with one metadata tell
abbrev pub IsPlain : (List ℕ → List ℕ) → List ℕ → ℕ → List (List ℕ) → MemberAnswer → Type 0
IsPlain digest id k payloads answer =
    (m : BlobMetadata) × IsMetadataIn digest id payloads m × Tells (IsColumn digest id m payloads) m.f (symbol_size m.f m.length) k answer

one_plain : (digest : List ℕ → List ℕ) (id : List ℕ) (k : ℕ) (payloads : List (List ℕ)) (a b : MemberAnswer) → IsPlain digest id k payloads a → IsPlain digest id k payloads b → a ≡ b
one_plain digest id k payloads a b is_a is_b =
    let m = is_a.0 in
    let shape = shape_in digest id payloads m is_a.1.0 in
    one_told (IsColumn digest id m payloads) (one_column digest id m shape payloads) m.f (symbol_size m.f m.length) k
    shape.1 (symbol_size-least m.f m.length).positive (cells_small m.f m.length shape) a b is_a.2
    (rw (is_a.1.1 is_b.0 is_b.1.0) at is_b.2)

pub one_answer : (digest : List ℕ → List ℕ) (id : List ℕ) (k : ℕ) (payloads : List (List ℕ)) (a b : MemberAnswer) → IsMember digest id k payloads a
    → IsMember digest id k payloads b → SameMemberAnswer a b
one_answer digest id k payloads (Collision c) (Collision d) is_a is_b = tt
one_answer digest id k payloads (Collision c) NoMetadata is_a is_b = absurd (is_b is_a.0 (first_two digest id payloads is_a.0 is_a.1 is_a.2).0)
one_answer digest id k payloads NoMetadata (Collision c) is_a is_b = absurd (is_a is_b.0 (first_two digest id payloads is_b.0 is_b.1 is_b.2).0)
one_answer digest id k payloads NoMetadata NoMetadata is_a is_b = refl
one_answer digest id k payloads (Collision c) b is_a is_b =
    absurd (not_two digest id payloads is_b.0 is_a.0 is_a.1 is_b.1 is_a.2)
one_answer digest id k payloads a (Collision c) is_a is_b =
    absurd (not_two digest id payloads is_a.0 is_b.0 is_b.1 is_a.1 is_b.2)
one_answer digest id k payloads NoMetadata b is_a is_b = absurd (is_a is_b.0 is_b.1.0)
one_answer digest id k payloads a NoMetadata is_a is_b = absurd (is_b is_a.0 is_a.1.0)
one_answer digest id k payloads a b is_a is_b = one_plain digest id k payloads a b is_a is_b

-- ---- true answers

-- columns that are the bundle's own tell what is so
told_true : (f s : ℕ) (members : List (List ℕ)) (is : IsBundleSize f (lengths_of members) s) (e : List ℕ) → IsExtended f (bundle_text f s members) e
    → (Column : ℕ → List ℕ → Type 0) → ((j : ℕ) (a b : List ℕ) → Column j a → IsOwnColumn f s e j b → a ≡ b) → f ≤ 333 → cell_count f * s < 2 ^ 32
    → HasIndex (IsOwnColumn f s e) f s (lengths_of members) → (k : ℕ) (answer : MemberAnswer)
    → Tells Column f s k answer → IsTrueOf members k answer
told_true f s members is e extended Column agree faults fits own k (Member bytes) told =
    let same = same_lengths Column _ agree f s faults is.positive fits told.0 _ told.1 own in
    let count = length-map members (λ (x : List ℕ). length x) in
    let h : k < length members = omega (arith, ap length same, told.2.within, count) in
    rw (same_told Column _ agree f s faults is.positive fits told.0 _ k bytes _ told.1 told.2 own
    (member_there f s members is e extended k (λ j _. refl) h)) (slice_get-get_or members k [] h)
told_true f s members is e extended Column agree faults fits own k (NoMember n) told =
    told.2 ∙ ap length (same_lengths Column _ agree f s faults is.positive fits told.0 _ told.1 own)
    ∙ length-map members (λ (x : List ℕ). length x)
told_true f s members is e extended Column agree faults fits own k BadIndex told =
    not_bad Column (IsOwnColumn f s e) agree f s faults is.positive fits (lengths_of members) own told
told_true f s members is e extended Column agree faults fits own k answer told = tt

-- what payloads tell is so where their columns are the bundle's own
pub plain_true : (digest : List ℕ → List ℕ) (shape : BlobShape) (members : List (List ℕ)) (id : List ℕ)
    (b : IsBundleOf digest shape members id) (payloads : List (List ℕ)) (e : List ℕ) → IsExtended shape.f b.bytes e
    → IsMetadataIn digest id payloads (metadata_over digest shape e)
    → AgreeBelow (shard_count shape.f) (IsColumn digest id (metadata_over digest shape e) payloads)
    (IsOwnColumn shape.f (symbol_size shape.f shape.length) e)
    → (k : ℕ) (answer : MemberAnswer) → IsPlain digest id k payloads answer → IsTrueOf members k answer
unfolding metadata_over
plain_true digest shape members id b payloads e extended one own k answer plain =
    let m = metadata_over digest shape e in
    let fit = shape_in digest id payloads m one.0 in
    let s = symbol_size shape.f shape.length in
    let size = bundle_size shape.f shape.length members b.bytes b.bundle b.fits in
    let least : IsBundleSize shape.f (lengths_of members) s = rw size b.bundle.least in
    let text : IsExtended shape.f (bundle_text shape.f s members) e = rw (size, ← b.bundle.text) extended in
    told_true shape.f s members least e text (IsColumn digest id m payloads)
    (λ j x y column mine. own j (column_held digest id m fit payloads j x column).within x y column mine) fit.1
    (cells_small shape.f shape.length fit) (index_there shape.f s members least e text (λ j _. refl) b.bundle.few) k answer
    (rw (one.1 plain.0 plain.1.0) at plain.2)

-- payloads that contradict a bundle carry one metadata
pub contradicting_plain : (digest : List ℕ → List ℕ) (members : List (List ℕ)) (id : List ℕ) (k : ℕ)
    (payloads : List (List ℕ)) (answer : MemberAnswer) → IsMember digest id k payloads answer
    → (IsTrueOf members k answer → ⊥) → IsPlain digest id k payloads answer
contradicting_plain digest members id k payloads NoMetadata told denied = absurd (denied tt)
contradicting_plain digest members id k payloads (Collision c) told denied = absurd (denied tt)
contradicting_plain digest members id k payloads answer told denied = told

-- ---- two members

-- payloads with the same columns do not contradict each other
pub not_contrary : (digest : List ℕ → List ℕ) (id : List ℕ) (k : ℕ) (a b : List (List ℕ)) (m : BlobMetadata)
    → AreContraryMembers digest id k a b → IsMetadataIn digest id a m → IsMetadataIn digest id b m
    → AgreeBelow (shard_count m.f) (IsColumn digest id m a) (IsColumn digest id m b) → ⊥
not_contrary digest id k a b m contrary one_a one_b agree =
    let fit = shape_in digest id a m one_a.0 in
    let told_a = rw (one_a.1 contrary.left_told.0 contrary.left_told.1.0) at contrary.left_told.2 in
    let told_b = rw (one_b.1 contrary.right_told.0 contrary.right_told.1.0) at contrary.right_told.2 in
    contrary.differ
    (same_told (IsColumn digest id m a) (IsColumn digest id m b)
    (λ j u v is_u is_v. agree j (column_held digest id m fit a j u is_u).within u v is_u is_v) m.f
    (symbol_size m.f m.length) fit.1 (symbol_size-least m.f m.length).positive (cells_small m.f m.length fit) told_a.0
    told_b.0 k contrary.left contrary.right told_a.1 told_a.2 told_b.1 told_b.2)

-- ---- true or not

some_or_not : (o : Option (List ℕ)) (bytes : List ℕ) → (o ≡ Some bytes) ⊎ (o ≡ Some bytes → ⊥)
some_or_not None bytes = inr (λ e. cc)
some_or_not (Some x) bytes = ⊎_elim (λ e. inl (ap Some e)) (λ apart. inr (λ e. apart (cc))) (same_or_not x bytes)

pub true_or_not : (members : List (List ℕ)) (k : ℕ) (answer : MemberAnswer) → IsTrueOf members k answer ⊎ (IsTrueOf members k answer → ⊥)
true_or_not members k (Member bytes) = some_or_not (slice_get members k) bytes
true_or_not members k (NoMember n) = grind arith
true_or_not members k BadIndex = inr (λ h. h)
true_or_not members k answer = inl tt

-- an answer is true of a bundle, or contradicts it
pub true_or_contrary : (digest : List ℕ → List ℕ) (id : List ℕ) (k : ℕ) (payloads : List (List ℕ)) (answer : MemberAnswer) → IsMember digest id k payloads answer
    → (shape : BlobShape) (members : List (List ℕ)) → IsBundleOf digest shape members id → IsTrueOf members k answer ⊎ ContradictsBundle digest shape members id k payloads
true_or_contrary digest id k payloads answer told shape members bundle =
    ⊎_elim (λ right. inl right) (λ wrong. inr (record { bundle = bundle; answer = answer; told = told; denied = wrong })) (true_or_not members k answer)

-- two members are the same, or contrary
pub same_or_contrary : (digest : List ℕ → List ℕ) (id : List ℕ) (k : ℕ) (payloads : List (List ℕ)) (answer : MemberAnswer) → IsMember digest id k payloads answer
    → (others : List (List ℕ)) (own bytes : List ℕ) → answer ≡ Member own → IsMember digest id k others (Member bytes)
    → (bytes ≡ own) ⊎ AreContraryMembers digest id k payloads others
same_or_contrary digest id k payloads answer told others own bytes is told_other =
    ⊎_elim (λ same. inl (sym same))
    (λ apart.
    inr (record { left = own; right = bytes; left_told = rw is at told; right_told = told_other; differ = apart }))
    (same_or_not own bytes)

-- what the columns tell under the one metadata
pub of_columns : (digest : List ℕ → List ℕ) (id : List ℕ) (k : ℕ) (payloads : List (List ℕ)) (m : BlobMetadata) (answer : MemberAnswer) → IsMetadataIn digest id payloads m
    → Tells (IsColumn digest id m payloads) m.f (symbol_size m.f m.length) k answer → IsMember digest id k payloads answer
of_columns digest id k payloads m NoMetadata one told = absurd told
of_columns digest id k payloads m (Collision c) one told = absurd told
of_columns digest id k payloads m answer one told = (m, one, told)

-- ---- what is found in payloads: columns, and lengths

-- a column that no held sliver shows is missing where its openings give none
pub not_recovered : (digest : List ℕ → List ℕ) (id : List ℕ) (m : BlobMetadata) (payloads : List (List ℕ)) (j : ℕ) (openings : List Opening) (outcome : Recovered)
    → NoHeldSliver digest id m Secondary j payloads → openings ≡ openings_in id Secondary j payloads
    → ((other : Recovered) → OpeningsComeTo digest m Secondary j openings other → other ≡ outcome) → ((bytes : List ℕ) → outcome ≡ Sliver bytes → ⊥)
    → IsMissing (IsColumn digest id m payloads) j
not_recovered digest id m payloads j openings outcome none same only refused bytes (inl first) =
    first_not_none (CarriesHeldSliver digest id m Secondary j) payloads bytes first none
not_recovered digest id m payloads j openings outcome none same only refused bytes (inr other) =
    refused bytes (sym (only (Sliver bytes) (rw same other.1)))

-- a column has four bytes and more
pub four_bytes : (f long : ℕ) → IsShape f long → 4 ≤ column_bytes f (symbol_size f long)
four_bytes f long shape = omega (arith, mul-le-mul_left (row_count f) (symbol_size-least f long).positive, shape.0)

-- ---- what the payloads' metadata are

-- if the payloads have one metadata, what is found in them cannot be but one
pub not_one : (digest : List ℕ → List ℕ) (id : List ℕ) (payloads : List (List ℕ)) (found : FoundMetadata) (m : BlobMetadata) → Finds digest id payloads found
    → IsMetadataIn digest id payloads m → ((one : MetaRef) → found ≡ One one → ⊥) → ⊥
not_one digest id payloads Absent m finds one other = finds m one.0
not_one digest id payloads (One r) m finds one other = other r refl
not_one digest id payloads (Two a b) m finds one other = finds.2 (one.1 (metadata_shown a) finds.0 ∙ sym (one.1 (metadata_shown b) finds.1))

-- columns of payloads that contradict a bundle are not all its own
pub not_own : (digest : List ℕ → List ℕ) (shape : BlobShape) (members : List (List ℕ)) (id : List ℕ) (k : ℕ)
    (payloads : List (List ℕ)) (c : ContradictsBundle digest shape members id k payloads) (m : BlobMetadata)
    (bytes e : List ℕ) → IsMetadataIn digest id payloads m → IsBundle shape.f members bytes → IsExtended shape.f bytes e
    → m ≡ metadata_over digest shape e → AgreeBelow (shard_count m.f) (IsColumn digest id m payloads)
    (IsOwnColumn shape.f (symbol_size shape.f shape.length) e) → ⊥
unfolding metadata_over
not_own digest shape members id k payloads c m bytes e one bundle extended is agree =
    let same = one_bundle shape.f members bytes c.bundle.bytes bundle c.bundle.bundle in
    let plain = contradicting_plain digest members id k payloads c.answer c.told c.denied in
    c.denied (plain_true _ _ _ _ c.bundle payloads e (rw same at extended) (rw is at one) (rw is at agree) k _ plain)

module _ {digest : List ℕ → List ℕ} {shape : BlobShape} {members : List (List ℕ)} {id : List ℕ}
    (b : IsBundleOf digest shape members id) where
  -- the metadata of a bundle that is made again has its identifier
  pub one_identifier : {bytes e : List ℕ} → IsBundle shape.f members bytes
      → ((other : List ℕ) → IsExtended shape.f bytes other → other ≡ e)
      → id ≡ identifier_of digest (metadata_over digest shape e)
  one_identifier {bytes = bytes} {e = e} bundle only =
      let same = one_bundle shape.f members bytes b.bytes bundle b.bundle in
      identifier_over digest shape bytes id e (ap length same ∙ b.fits) only (rw same b.identifier)

  -- and its matrix is of the shape
  pub own_coded : {made : BlobShape} {bytes e : List ℕ} → made ≡ shape → IsBundle shape.f members bytes
      → IsExtended shape.f bytes e → IsCodedMatrix made.f (symbol_size made.f made.length) e
  own_coded {bytes = bytes} made_is bundle extended =
      rw (made_is, ← b.fits, ← one_bundle shape.f members bytes b.bytes bundle b.bundle) extended.coded

-- the size of a symbol is even
pub twice_half : (n f long : ℕ) → n ≡ symbol_size f long → 2 * (n / 2) ≡ symbol_size f long
twice_half n f long is = omega (arith, (symbol_size-least f long).even)

-- what follows from a fact on an option
pub weaken_none : {A : Type 0} (P Q : Type 0) (o : Option A) → (P → Q) → IfNone o P → IfNone o Q
weaken_none P Q None f h = f h
weaken_none P Q (Some x) f h = h

-- ---- answers on a member that contradict the bundle or each other go against a digest that tells all texts apart

all_bytes : (payloads : List (List ℕ)) → All (All IsByte) payloads → All AreBytes payloads
all_bytes payloads are i d l = bytes_of_all _ (are i d l)

module _ (digest : List ℕ → List ℕ) (is : IsDigest digest) where
  -- a bundle
  pub bundle_collides : (shape : BlobShape) (members : List (List ℕ)) (id : List ℕ) (k : ℕ) (payloads : List (List ℕ)) → All (All IsByte) payloads
      → ContradictsBundle digest shape members id k payloads → CanCollide digest
  unfolding metadata_over
  bundle_collides shape members id k payloads are contrary none =
      let one = one_to_one digest is none in
      let b = contrary.bundle in
      let found = contradicting_plain digest members id k payloads contrary.answer contrary.told contrary.denied in
      let has = found.1.0 in
      let own = b.identifier in
      let e = own.1.0 in
      let m = metadata_over digest shape e in
      let same : found.0 ≡ own.0 =
      one_metadata digest one found.0 own.0 has.4.1.fit own.2.fit
      (metadata_carried digest id payloads found.0 (all_bytes payloads are) has)
      (honest_bytes digest is shape.format shape.f b.bytes own.0 own.1) (sym has.4.1.identifier ∙ own.2.identifier) in
      let here = rw (same ∙ own.1.2, b.fits) at found.1 in
      let held = column_held digest id m (shape_in digest id payloads m here.0) payloads in
      let coded = rw b.fits at own.1.1.coded in
      contrary.denied
      (plain_true digest shape members id b payloads e own.1.1 here
      (λ j less x y column mine. one_sliver digest one m Secondary j x y (held j x column)
      (rw mine (honest_sliver digest Secondary shape e j coded less)))
      k contrary.answer found)

  -- two members
  pub members_collide : (id : List ℕ) (k : ℕ) (a b : List (List ℕ)) → All (All IsByte) a → All (All IsByte) b → AreContraryMembers digest id k a b → CanCollide digest
  members_collide id k a b are_a are_b contrary none =
      let one = one_to_one digest is none in
      let m = contrary.left_told.0 in
      let has_a = contrary.left_told.1.0 in
      let has_b = contrary.right_told.1.0 in
      let same : contrary.right_told.0 ≡ m = one_metadata digest one contrary.right_told.0 m has_b.4.1.fit has_a.4.1.fit
      (metadata_carried digest id b contrary.right_told.0 (all_bytes b are_b) has_b)
      (metadata_carried digest id a m (all_bytes a are_a) has_a) (sym has_b.4.1.identifier ∙ has_a.4.1.identifier) in
      let held = column_held digest id m (shape_in digest id a m has_a) in
      not_contrary digest id k a b m contrary contrary.left_told.1 (rw same at contrary.right_told.1)
      (λ j less x y is_x is_y. one_sliver digest one m Secondary j x y (held a j x is_x) (held b j y is_y))
