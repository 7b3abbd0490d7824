-- The first completed answers of a network.
use Rattle.wal_world.proofs.Common.{◌≡◌, ◌≢◌, ℕ, List, true, false, cond, Option, Some, None, is_some, IfSome, IfNone, Result, Ok, Err, IfOk, refl, sym, ap, ◌∙◌, from_sorted, BTreeMap, get_by, insert_entry, BlobId, id_cmp, Format, One, Two, IsIdentifierOf, ids_total, First, World, verdict_of, answered, Collision, IsCollision, AgreesWithFirst, IsCompared, entry_of, contains_key, FinMap, with_entry, IsOrdered}
use Rattle.wal_evidence.specs.declared.evidence.Verdict.{Verdict}
use Rattle.wal_store.proofs.EntriesLaws.{get_view, insert_view}

-- what a look-up finds
pub found : (m : BTreeMap BlobId First) (id : BlobId) (o : Option First) → IsOrdered id_cmp m → o ≡ get_by (id_cmp id) m → entry_of {R = id_cmp} (from_sorted m.entries) id ≡ o
found m id o ordered at = get_view id_cmp m.entries id ordered ∙ sym at

-- an answer that was compared with the first one
pub compared_is : {E : Type 0} (digest : List ℕ → List ℕ) (w : World) (id : BlobId) (answer first : First) (r : Result (Option Collision) E) → entry_of w.answers id ≡ Some first
    → IfOk r (λ o. IfNone o (verdict_of first ≡ verdict_of answer)) → IfOk r (λ o. IfSome o (λ c. IsCollision digest c.left c.right × (verdict_of first ≢ verdict_of answer)))
    → IfOk r (λ o. IsCompared digest w id answer o w)
compared_is digest w id answer first (Err e) there same differs = tt
compared_is digest w id answer first (Ok (Some c)) there same differs = (differs.0, (first, there, differs.1), refl)
compared_is digest w id answer first (Ok None) there same differs =
    let stays : contains_key w.answers id ≡ true = ap is_some there in (
      λ other at. let e : Some other ≡ Some first = sym at ∙ there in let one : other ≡ first = (cc) in ap verdict_of one ∙ same,
      ap (λ (m : FinMap id_cmp First). record w { answers = m }) (sym (ap (λ b. cond b w.answers (with_entry w.answers id answer)) stays)),
    )

-- where none is there, the new one is the first
pub no_first : (m : BTreeMap BlobId First) (id : BlobId) (told : Verdict) → IsOrdered id_cmp m → None ≡ get_by (id_cmp id) m → AgreesWithFirst (from_sorted m.entries) id told
no_first m id told ordered at answer h = absurd (let e : ◌≡◌ {A = Option First} None (Some answer) = sym (found m id None ordered at) ∙ h in cc)

-- to insert a first answer where none is gives the model's first answers
pub new_first : (m new : BTreeMap BlobId First) (id : BlobId) (answer : First) → IsOrdered id_cmp m → None ≡ get_by (id_cmp id) m
    → new.entries ≡ insert_entry id_cmp m.entries id answer → from_sorted {R = id_cmp} new.entries ≡ answered (from_sorted m.entries) id answer
new_first m new id answer ordered at is =
    let gone : contains_key {R = id_cmp} (from_sorted m.entries) id ≡ false = (ap is_some (found m id None ordered at)) in
    ap (from_sorted {R = id_cmp}) is ∙ insert_view id_cmp ids_total m.entries id answer ordered
    ∙ sym (ap (λ b. cond b (from_sorted {R = id_cmp} m.entries) (with_entry (from_sorted m.entries) id answer)) gone)

-- the other format
pub other_format : (digest : List ℕ → List ℕ) (f : ℕ) (blob id got : List ℕ) (format : Format) → IsIdentifierOf digest format f blob id
    → ((other : List ℕ) → IsIdentifierOf digest One f blob other → other ≡ got) → (got ≡ id → ⊥) → IsIdentifierOf digest Two f blob id
other_format digest f blob id got One h only ne = absurd (ne (sym (only id h)))
other_format digest f blob id got Two h only ne = h
