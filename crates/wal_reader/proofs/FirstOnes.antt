-- The first payload that carries something.
use Rattle.wal_reader.proofs.Common.{◌≡◌, ◌≢◌, ℕ, suc, ◌+◌, ◌<◌, List, [], ◌∷◌, ◌++◌, length, take, drop, get_or, sym, ap, subst, ◌∙◌, arith, length-append, Any, Result, Ok, take-append-drop, All-push, BlobMetadata, EncodingProof, FrameError, Frame, Proof, read_of, CarriesBadProof, CarriesProof, IsFirst, NoneIn, AreFirstTwo, CarriesMetadata, HasMetadata, IsFirstMetadata, IsMetadataIn, drop_more}
use Rattle.std.proofs.Math.Seq.{get_or-append_seam}
use Rattle.wal_evidence.specs.BadProof.{IsBadProof}
use Rattle.wal_reader.proofs.Gathering.{front_more}

-- the payloads before one, this one, and those behind it
pub parted : (payloads : List (List ℕ)) (i : ℕ) (payload : List ℕ) → i < length payloads → payload ≡ get_or payloads i payload
    → payloads ≡ take i payloads ++ payload ∷ drop (i + 1) payloads
parted payloads i payload l is =
    cc (take-append-drop i payloads, drop_more payloads i payload l, is)

-- what holds of a payload in the middle holds of some payload
pub has_seam : (P : List ℕ → Type 0) (payloads front : List (List ℕ)) (payload : List ℕ) (back : List (List ℕ)) → payloads ≡ front ++ payload ∷ back
    → P payload → Any P payloads
has_seam P payloads front payload back parts holds =
    let at : get_or payloads (length front) payload ≡ payload =
    rw parts (get_or-append_seam front payload back payload) in
    (length front, payload, omega (arith, ap length parts, length-append front (payload ∷ back)), at, holds)

-- the first one, where none before it carries any
pub first_at : {X : Type 0} (Carries : List ℕ → X → Type 0) (payloads items : List (List ℕ)) (i : ℕ) (payload : List ℕ) (x : X) → items ≡ payloads
    → i < length items → payload ≡ get_or items i payload → NoneIn Carries (take i items) → Carries payload x → IsFirst Carries payloads x
first_at Carries payloads items i payload x same l is none carries =
    (take i items, payload, drop (i + 1) items, sym same ∙ parted items i payload l is, carries, none)

-- one more payload that carries none
pub none_more : {X : Type 0} (Carries : List ℕ → X → Type 0) (payloads : List (List ℕ)) (i : ℕ) (payload : List ℕ) → i < length payloads
    → payload ≡ get_or payloads i payload → NoneIn Carries (take i payloads) → ((x : X) → Carries payload x → ⊥) → NoneIn Carries (take (i + 1) payloads)
none_more {X} Carries payloads i payload l is before here =
    rw (front_more payloads i payload l is)
    (All-push (λ p. (x : X) → Carries p x → ⊥) (take i payloads) payload before here)

-- where there is a first one, there is one
pub first_not_none : {X : Type 0} (Carries : List ℕ → X → Type 0) (payloads : List (List ℕ)) (x : X) → IsFirst Carries payloads x → NoneIn Carries payloads → ⊥
first_not_none Carries payloads x first none =
    let found = has_seam (λ p. Carries p x) payloads first.0 first.1 first.2 first.3 first.4 in
    none found.0 found.1 found.2 x (subst (λ (p : List ℕ). Carries p x) (sym found.3) found.4)

one_first_in : {X : Type 0} (Carries : List ℕ → X → Type 0) (same : (payload : List ℕ) (x y : X) → Carries payload x → Carries payload y → x ≡ y)
    → (front : List (List ℕ)) (payload : List ℕ) (back others : List (List ℕ)) (other : List ℕ) (behind : List (List ℕ)) (x y : X)
    → front ++ payload ∷ back ≡ others ++ other ∷ behind → Carries payload x → Carries other y → NoneIn Carries front → NoneIn Carries others → x ≡ y
one_first_in Carries same [] payload back [] other behind x y e carries also none no_other =
    let head : payload ≡ other = cc e in same payload x y carries (rw head also)
one_first_in Carries same [] payload back (q ∷ others) other behind x y e carries also none no_other =
    let head : payload ≡ q = cc e in absurd (no_other 0 q (omega arith) x (rw head at carries))
one_first_in Carries same (p ∷ front) payload back [] other behind x y e carries also none no_other =
    let head : p ≡ other = cc e in absurd (none 0 p (omega arith) y (rw head also))
one_first_in Carries same (p ∷ front) payload back (q ∷ others) other behind x y e carries also none no_other =
    one_first_in Carries same front payload back others other behind x y (cc e) carries also
    (λ k d l. none (suc k) d (omega arith)) (λ k d l. no_other (suc k) d (omega arith))

-- what the first one carries is one thing
pub one_first : {X : Type 0} (Carries : List ℕ → X → Type 0) → ((payload : List ℕ) (x y : X) → Carries payload x → Carries payload y → x ≡ y)
    → (payloads : List (List ℕ)) (x y : X) → IsFirst Carries payloads x → IsFirst Carries payloads y → x ≡ y
one_first Carries same payloads x y a b = one_first_in Carries same a.0 a.1 a.2 b.0 b.1 b.2 x y (sym a.3 ∙ b.3) a.4 b.4 a.5 b.5

-- the first metadata, and the first that differs from it
pub first_two : (digest : List ℕ → List ℕ) (id : List ℕ) (payloads : List (List ℕ)) (a b : BlobMetadata) → AreFirstTwo digest id payloads a b
    → HasMetadata digest id payloads a × HasMetadata digest id payloads b × (a ≢ b)
first_two digest id payloads a b (first, other) = (
  has_seam (CarriesMetadata digest id a) payloads first.0 first.1 first.2 first.3 first.4,
  has_seam (CarriesMetadata digest id b) payloads other.0 other.1 other.2 other.3 other.4,
  λ e. other.5 (sym e),
)

-- the first metadata, and no other
pub found_one : (digest : List ℕ → List ℕ) (id : List ℕ) (payloads : List (List ℕ)) (m : BlobMetadata)
    → IsFirstMetadata digest id payloads m → ((other : BlobMetadata) → HasMetadata digest id payloads other → other ≡ m)
    → IsMetadataIn digest id payloads m
found_one digest id payloads m first only =
    (has_seam (CarriesMetadata digest id m) payloads first.0 first.1 first.2 first.3 first.4, only)

-- a payload is one proof
pub one_proof : (read : Result Frame FrameError) (id : List ℕ) (p q : EncodingProof) → read ≡ Ok (Proof id p) → read ≡ Ok (Proof id q) → p ≡ q
one_proof read id p q is_p is_q = cc (is_p, is_q)

-- a payload whose proof is not bad carries no bad one
pub not_bad : (digest : List ℕ → List ℕ) (id : List ℕ) (m : BlobMetadata) (payload : List ℕ) (q : EncodingProof) → CarriesProof id payload q
    → (IsBadProof digest m q → ⊥) → (p : EncodingProof) → CarriesBadProof digest id m payload p → ⊥
not_bad digest id m payload q carries good p bad =
    good (subst (λ (x : EncodingProof). IsBadProof digest m x) (one_proof (read_of payload) id p q bad.0 carries) bad.1)
