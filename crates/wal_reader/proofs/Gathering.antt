-- Payloads one after the other, and the metadata among them.
use Rattle.wal_reader.proofs.Common.{◌≡◌, ◌⊎◌, ℕ, ◌+◌, ◌<◌, List, [], ◌∷◌, ◌++◌, length, take, get_or, sym, ap, subst, ◌∙◌, arith, inl, inr, ⊎_elim, length-append, Any, Result, Ok, Err, IfOk, cases_lt, get_or_append_left, get_or_push, take_more, BlobMetadata, FrameError, Frame, Metadata, CarriesMetadata, HasMetadata}

-- what holds of some element of a longer list holds of one before, or of the last
pub any_push_cases : {X : Type 0} (P : X → Type 0) (xs : List X) (y : X) → Any P (xs ++ y ∷ []) → Any P xs ⊎ P y
any_push_cases P xs y (k, x, below, at, holds) =
    ⊎_elim
    (λ inside. inl (k, x, inside, sym (get_or_append_left xs (y ∷ []) x k inside) ∙ at, holds))
    (λ past.
    inr (subst P (sym at ∙ get_or_push xs y x k (omega (arith, past, below, length-append xs (y ∷ [])))) holds))
    (cases_lt k (length xs))

-- one more payload in the front of the list
pub front_more : (payloads : List (List ℕ)) (i : ℕ) (payload : List ℕ) → i < length payloads → payload ≡ get_or payloads i payload
    → take (i + 1) payloads ≡ take i payloads ++ payload ∷ []
front_more payloads i payload l is = take_more payloads i payload l ∙ ap (λ (p : List ℕ). take i payloads ++ p ∷ []) (sym is)

-- a payload that adds nothing to what is known of the metadata
pub only_more : (digest : List ℕ → List ℕ) (id : List ℕ) (P : BlobMetadata → Type 0) (payloads : List (List ℕ)) (i : ℕ) (payload : List ℕ) → i < length payloads
    → payload ≡ get_or payloads i payload
    → ((m : BlobMetadata) → HasMetadata digest id (take i payloads) m → P m) → ((m : BlobMetadata) → CarriesMetadata digest id m payload → P m)
    → (m : BlobMetadata) → HasMetadata digest id (take (i + 1) payloads) m → P m
only_more digest id P payloads i payload l is before here m has =
    ⊎_elim (before m) (here m) (any_push_cases (CarriesMetadata digest id m) (take i payloads) payload
    (rw (front_more payloads i payload l is) at has))

-- a payload is one frame
pub one_metadata : (read : Result Frame FrameError) (a b : BlobMetadata) → read ≡ Ok (Metadata a) → read ≡ Ok (Metadata b) → a ≡ b
one_metadata read a b is_a is_b = cc (is_a, is_b)

-- what holds of a result also holds in other words
pub weaken : {A E : Type 0} (P Q : A → Type 0) (r : Result A E) → ((x : A) → P x → Q x) → IfOk r P → IfOk r Q
weaken P Q (Ok x) f p = f x p
weaken P Q (Err e) f p = tt
