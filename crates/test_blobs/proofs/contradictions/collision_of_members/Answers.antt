-- Two members of one identifier and number that differ.
use Rattle.std.proofs.Common.{◌≡◌, ◌≢◌, ◌∙◌, ◌⊎◌, ℕ, List, inl, inr, sym, subst, rules}
use Rattle.wal_bundle.specs.declared.answer.MemberAnswer.{MemberAnswer}
use Rattle.wal_bundle.specs.Member.{IsMember}
use Rattle.wal_bundle.specs.Contradictions.{AreContraryMembers}
use Rattle.test_blobs.proofs.contradictions.collision_of_members.Goals as goal

contrary : (digest : List ℕ → List ℕ) (id : List ℕ) (k : ℕ) (a b : List (List ℕ)) (left right : List ℕ) → (right ≡ left) ⊎ AreContraryMembers digest id k a b → left ≢ right
    → AreContraryMembers digest id k a b
contrary digest id k a b left right (inl same) apart = absurd (apart (sym same))
contrary digest id k a b left right (inr other) apart = other

pub member_collision-requires : goal.member_collision-requires
member_collision-requires g c =
    let digest = g.H.Hash32.digest in
    let id = c.args.id.now.0 in
    let left = c.in-Member.left in
    let right = c.in-Member-2.right in
    let told = subst (λ (answer : MemberAnswer). IsMember digest id c.args.k c.args.b.now answer) c.in-Member-2.is c.in_ok-right.ensures.told in
    let differ : c.as_slice.result.now ≢ c.as_slice-2.result.now = search rules in
    let apart : left ≢ right = λ same. differ (c.as_slice.ensures ∙ same ∙ sym c.as_slice-2.ensures) in
    contrary digest id c.args.k c.args.a.now c.args.b.now left right (c.in_ok-left.ensures.one c.args.b.now left right c.in-Member.is told) apart
