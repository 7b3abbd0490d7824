-- What payloads tell of a member is one result of the command that reads it.
use Rattle.wal_run.proofs.Common.{◌≡◌, inl, inr, ⊎_elim, ℕ, List, [], codes, refl, ap, arith, BlobId, IsStream, IsMember, IsResult, Recorded, collision, lacking, rejection, success, Told, lacks, recorded, rejects, succeeds, unbundling, bundling}
use Rattle.wal_bundle.proofs.Bundled.{one_bundle, not_too_long}
use Rattle.wal_bundle.specs.declared.answer.MemberAnswer.{MemberAnswer}
use Rattle.wal_bundle.specs.declared.answer.MemberAnswer.TheVariants.{BadIndex, Collision, Member, Missing, NoMember, NoMetadata}
use Rattle.wal_bundle.specs.Contradictions.{SameMemberAnswer}
use Rattle.wal_bundle.proofs.Truths.{one_answer}
use Rattle.wal_run.specs.inside.Unbundling.{member_status, member_text}
use Rattle.wal_run.proofs.CommandLaws.{Determined, Same, ToldBy, both_collide, one_by, same, told_so}

-- an answer is the result
member_is : (digest : List ℕ → List ℕ) (id : BlobId) (k : ℕ) (input : List ℕ) (payloads : List (List ℕ)) → IsStream payloads input → (a : MemberAnswer)
    → IsMember digest id.0 k payloads a → IsResult digest (unbundling digest id k) input (member_status a) (member_text a)
member_is digest id k input payloads is (Member bytes) told = success bytes (recorded payloads told.0, (is, told.1), told)
member_is digest id k input payloads is BadIndex told = rejection (codes "bad index\n") (recorded payloads told.0, (is, told.1), (told, refl))
member_is digest id k input payloads is (Missing j) told = lacking _ (inr (recorded payloads told.0, (is, told.1), inl (j, told, refl)))
member_is digest id k input payloads is (NoMember count) told = lacking _ (inr (recorded payloads told.0, (is, told.1), inr (count, told, refl)))
member_is digest id k input payloads is NoMetadata told = lacking (codes "no metadata\n") (inl (payloads, is, told, refl))
member_is digest id k input payloads is (Collision clash) told =
    collision clash.left clash.right _ told.3
    (record { front = []; clashes = inl ((payloads, is, told.0, told.1, told.2, told.4), refl); whole = refl })

-- the status and the text of a member's answer are a result of `member`
pub member_as : (digest : List ℕ → List ℕ) (id : BlobId) (k : ℕ) (input : List ℕ) (payloads : List (List ℕ)) (s : ℕ) (text : List ℕ) → IsStream payloads input
    → (a : MemberAnswer) → IsMember digest id.0 k payloads a → s ≡ member_status a → text ≡ member_text a → IsResult digest (unbundling digest id k) input s text
member_as digest id k input payloads s text is a told status line = rw (status, line) (member_is digest id k input payloads is a told)

-- a result is that of an answer
answer_of : (digest : List ℕ → List ℕ) (id : BlobId) (k : ℕ) (r : Recorded) (s : ℕ) (x : List ℕ) → Told digest (unbundling digest id k) r s x
    → ToldBy (IsMember digest id.0 k r.payloads) member_status member_text s x
answer_of digest id k r _ _ (succeeds text is) = (Member text, is, refl, refl)
answer_of digest id k r _ _ (rejects text is) = (BadIndex, is.0, refl, is.1)
answer_of digest id k r _ _ (lacks text is) =
    ⊎_elim (λ missing. (Missing missing.0, missing.1, refl, missing.2))
    (λ none. (NoMember none.0, none.1, refl, none.2)) is
answer_of digest id k r s x told = absurd (grind (arith, told_so digest (unbundling digest id k) r s x told))

one_told : (a b : MemberAnswer) → SameMemberAnswer a b → Same (member_status a) (member_text a) (member_status b) (member_text b)
one_told (Collision a) (Collision b) is = both_collide _ _ _ _ [] a b refl refl refl refl
one_told a b is = same _ _ _ _ (ap member_status is) (ap member_text is)

pub unbundled_once : (digest : List ℕ → List ℕ) (id : BlobId) (k : ℕ) → Determined digest (unbundling digest id k)
unbundled_once digest id k input r spells s x t y a b =
    one_by (IsMember digest id.0 k r.payloads) member_status member_text
    (λ p q is also. one_told p q (one_answer digest id.0 k r.payloads p q is also)) (answer_of digest id k r s x a) (answer_of digest id k r t y b)

pub bundled_once : (digest : List ℕ → List ℕ) (f : ℕ) → Determined digest (bundling f)
bundled_once digest f input members spells _ _ _ _ (succeeds a is) (succeeds b also) = same _ _ _ _ refl (one_bundle f members a b is.2 also.2)
bundled_once digest f input members spells _ _ _ _ (succeeds a is) (lacks b (inr over)) = absurd (not_too_long f members a is over.0)
bundled_once digest f input members spells _ _ _ _ (lacks a (inr over)) (succeeds b is) = absurd (not_too_long f members b is over.0)
bundled_once digest f input members spells _ _ _ _ (lacks a over) (lacks b also) = grind arith
bundled_once digest f input members spells _ _ _ _ (succeeds a is) (lacks b (inl over)) = absurd (omega (arith, is.2.few, over.0.2))
bundled_once digest f input members spells _ _ _ _ (lacks a (inl over)) (succeeds b is) = absurd (omega (arith, is.2.few, over.0.2))
bundled_once digest f input members spells s x t y a b =
    absurd (grind (arith, told_so digest (bundling f) members s x a, told_so digest (bundling f) members t y b))
