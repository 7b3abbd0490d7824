-- What replies of sound holdings show, and how many shards a list names.
use Rattle.wal_theorem.proofs.Common.{◌≡◌, ℕ, ◌<◌, ◌≤◌, List, [], ◌∷◌, ◌++◌, length, get_or, Bool, true, is_some, nat_eq, Some, Any, Contains, ◌⊎◌, refl, ap, ◌∙◌, arith, list_any, Contains-append_left, Contains-append_right, BlobMetadata, EncodingProof, proof_text, spelled_metadata-text, Commits, identifier_is, Metadata, Proof, frame_text, metadata_frame, count_below, count_below-mono, count_below-among, Parts, HoldsMetadata, metadata_reply, proof_reply, settled, has_proof}
use Rattle.std.proofs.Common.{eq-eqb}
use Rattle.std.proofs.lemmas.List.Folds.{list_any-from_Any}

-- ---- lists

-- the first element
pub contains_first : {X : Type 0} (x y : X) (xs : List X) → y ≡ x → Contains (y ∷ xs) x
contains_first x y xs e = (0, omega arith, e)

-- the only element of a list
pub only_one : {X : Type 0} (y x : X) (k : ℕ) → k < length (y ∷ []) → get_or (y ∷ []) k x ≡ x → y ≡ x
only_one y x k l e = grind arith

-- what holds of an element that the list has
pub any_of : {X : Type 0} (P : X → Type 0) (xs : List X) (x : X) → Contains xs x → P x → Any P xs
any_of P xs x c p = (c.0, x, c.1, c.2, p)

-- a number is itself
pub same_number : (n : ℕ) → nat_eq n n ≡ true
same_number n = eq-eqb n n refl

-- a list has as many places as shards that it names
pub count_named : (n : ℕ) (heard : ℕ → Bool) (xs : List ℕ) → ((s : ℕ) → s < n → heard s ≡ true → Contains xs s) → count_below n heard ≤ length xs
count_named n heard xs named =
    let mono = count_below-mono n heard (λ s. list_any (λ t. nat_eq t s) xs) (λ s l h.
    let (k, lt, at) = named s l h in list_any-from_Any (λ t. nat_eq t s) xs (k, s, lt, at, same_number s)) in
    omega (arith, mono, count_below-among n xs)

-- ---- sizes

-- an identifier that commits something has 32 bytes
pub id_long : (digest : List ℕ → List ℕ) (size : (text : List ℕ) → length (digest text) ≡ 32) (id : List ℕ) (m : BlobMetadata) → Commits digest id m → length id ≡ 32
id_long digest size id m commits = ap length (commits.identifier ∙ identifier_is digest m) ∙ size _

-- ---- what a reply shows

-- the metadata, what is told between, and the proof
abbrev pub told : List ℕ → Parts → List (List ℕ) → List (List ℕ)
told id p middle = metadata_reply p ++ (middle ++ proof_reply id p)

pub shows_metadata : (id : List ℕ) (p : Parts) (middle : List (List ℕ)) (m : BlobMetadata) → HoldsMetadata p m → Contains (told id p middle) (frame_text (Metadata m))
shows_metadata id p middle m holds =
    rw holds.spelled
    (contains_first _ _ (middle ++ proof_reply id p) (ap metadata_frame (spelled_metadata-text m holds.fit)))

-- what is in the middle of what is told is told
pub shows_middle : (id : List ℕ) (p : Parts) (middle : List (List ℕ)) (x : List ℕ) → Contains middle x → Contains (told id p middle) x
shows_middle id p middle x c =
    Contains-append_right (metadata_reply p) (middle ++ proof_reply id p) x (Contains-append_left middle (proof_reply id p) x c)

pub shows_proof : (id : List ℕ) (p : Parts) (middle : List (List ℕ)) (q : EncodingProof) → p.proof ≡ Some (proof_text q)
    → Contains (told id p middle) (frame_text (Proof id q))
shows_proof id p middle q is =
    Contains-append_right (metadata_reply p) (middle ++ proof_reply id p) (frame_text (Proof id q))
    (Contains-append_right middle (proof_reply id p) (frame_text (Proof id q)) (rw is (contains_first _ _ [] refl)))

-- ---- settled holdings

-- a settled holding has metadata, and a proof or both slivers
pub settled_has : (p : Parts) → settled p ≡ true → (is_some p.metadata ≡ true) × ((has_proof p ≡ true) ⊎ ((is_some p.primary ≡ true) × (is_some p.secondary ≡ true)))
settled_has p h = grind arith
