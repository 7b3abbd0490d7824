-- The payloads tell another member than the bundle has.
use Rattle.std.proofs.Common.{◌≡◌, ◌≢◌, ◌∙◌, ◌⊎◌, ℕ, List, Some, length, slice_get, inl, inr, refl, sym, subst, rules}
use Rattle.std.proofs.lemmas.Option.{slice_get_read}
use Rattle.wal_shape.specs.Shape.{BlobShape}
use Rattle.wal_bundle.specs.declared.answer.MemberAnswer.{MemberAnswer}
use Rattle.wal_bundle.specs.declared.answer.MemberAnswer.TheVariants.{Member}
use Rattle.wal_bundle.specs.Layout.{IsBundle}
use Rattle.wal_bundle.specs.Contradictions.{ContradictsBundle, IsBundleOf, IsTrueOf}
use Rattle.test_blobs.proofs.contradictions.collision_of_bundle.Goals as goal

same_some : (a b : List ℕ) → Some a ≡ Some b → a ≡ b
same_some a b same = cc

contradicts : (digest : List ℕ → List ℕ) (shape : BlobShape) (members : List (List ℕ)) (id : List ℕ) (k : ℕ) (payloads : List (List ℕ)) (answer : MemberAnswer) (told own : List ℕ)
    → IsTrueOf members k answer ⊎ ContradictsBundle digest shape members id k payloads → answer ≡ Member told → slice_get members k ≡ Some own → own ≢ told
    → ContradictsBundle digest shape members id k payloads
contradicts digest shape members id k payloads answer told own (inl true_of) answer_is own_is apart =
    let is : slice_get members k ≡ Some told = subst (IsTrueOf members k) answer_is true_of in
    absurd (apart (same_some own told (sym own_is ∙ is)))
contradicts digest shape members id k payloads answer told own (inr other) answer_is own_is apart = other

pub bundle_collision-requires : goal.bundle_collision-requires
bundle_collision-requires g c =
    let digest = g.H.Hash32.digest in
    let shape = c.in_ok-shape.shape in
    let members = c.args.members.now in
    let id = c.in_ok-id.id.0 in
    let bytes = c.as_slice-2.result.now in
    let fits : length bytes ≡ shape.length = search rules in
    let f_is : shape.f ≡ c.args.f = search rules in
    let made = subst (λ (b : List ℕ). IsBundle c.args.f members b) (sym c.as_slice-2.ensures) c.in-Ok.ensures.bundled.2 in
    let is : IsBundleOf digest shape members id =
    record { bytes = bytes; fits = fits; bundle = subst (λ (f : ℕ). IsBundle f members bytes) (sym f_is) made; identifier = c.in_ok-id.ensures.identifier } in
    let own_is : slice_get members c.args.k ≡ Some c.in-Some.own.now =
    subst (λ (xs : List (List ℕ)). slice_get xs c.args.k ≡ Some c.in-Some.own.now) c.as_slice-3.ensures
    (slice_get_read c.as_slice-3.result.now (length c.as_slice-3.result.now) c.args.k c.in-Some.own.now refl c.in-Some.ensures.lookup.3.0 c.in-Some.ensures.lookup.1) in
    let apart : c.in-Some.own.now ≢ c.in-Member.told = search rules in
    contradicts digest shape members id c.args.k c.args.payloads.now c.in_ok-told.field-0 c.in-Member.told c.in-Some.own.now
    (c.in_ok-told.ensures.bundle shape members is) c.in-Member.is own_is apart
