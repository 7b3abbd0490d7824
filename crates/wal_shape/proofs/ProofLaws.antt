-- What is read as a proof is spelled so, and what is spelled so is read: each proof has one spelling of its own.
use Rattle.wal_shape.proofs.Common.{◌≡◌, ℕ, zero, suc, ◌+◌, ◌<◌, ◌≤◌, ◌-◌, List, [], ◌∷◌, ◌++◌, length, drop, Option, Some, None, Result, Ok, Err, slice_get, refl, sym, ap, ◌∙◌, append_assoc, arith, IfSome, IfNone, AllByRecursion, flat_map, w8, w16, append-nil, Axis, Opening, BodyFault, Head, IsBody, EncodingProof, IsProof, number_text, body_text, axis_number, proof_text, body_at, axis_of, openings_in, proof_with, proof_of, head_at, behind, bodies_end, SpellProof, ended, whole_head, head_in}
use Rattle.std.proofs.lemmas.List.Concat.{flat_map-cons}
use Rattle.wal_shape.proofs.Codecs.{Takes, Takes-none, Takes-then, Codec, IsReader, taken_of, both, seen, named_is}
use Rattle.wal_shape.proofs.Numbers.{IsBytes, wide8, wide16, byte_text}
use Rattle.wal_shape.proofs.BodyLaws.{IsBelow, number, body_taken, body_again}

-- ---- bodies

-- where all bodies can be read, the first can, and so can the others
behind_some : (r : Result (Opening × List ℕ) BodyFault) (others : List ℕ → Option (List ℕ)) (rest : List ℕ) → behind r others ≡ Some rest → (x : Opening × List ℕ) × (r ≡ Ok x) × (others x.1 ≡ Some rest)
behind_some (Ok x) others rest e = (x, refl, e)
behind_some (Err d) others rest e = absurd cc

pub bodies_end-step : (n : ℕ) (bytes rest : List ℕ) → bodies_end (suc n) bytes ≡ Some rest → (x : Opening × List ℕ) × (body_at bytes ≡ Ok x) × (bodies_end n x.1 ≡ Some rest)
unfolding bodies_end
bodies_end-step n bytes rest e = behind_some (body_at bytes) (bodies_end n) rest e

pub openings_in-step : (n : ℕ) (bytes : List ℕ) (x : Opening × List ℕ) → body_at bytes ≡ Ok x → openings_in (suc n) bytes ≡ x.0 ∷ openings_in n x.1
unfolding openings_in
openings_in-step n bytes x e = rw e

pub length-openings_in : (n : ℕ) (bytes rest : List ℕ) → bodies_end n bytes ≡ Some rest → length (openings_in n bytes) ≡ n
length-openings_in zero bytes rest e = unfold openings_in in refl
length-openings_in (suc n) bytes rest e =
    let x = bodies_end-step n bytes rest e in
    rw (openings_in-step n bytes x.0 x.1) (ap suc (length-openings_in n x.0.1 rest x.2))

pub openings_in-fit : (n : ℕ) (bytes rest : List ℕ) → bodies_end n bytes ≡ Some rest → AllByRecursion IsBody (openings_in n bytes)
openings_in-fit zero bytes rest e = unfold openings_in in tt
openings_in-fit (suc n) bytes rest e =
    let x = bodies_end-step n bytes rest e in
    rw (openings_in-step n bytes x.0 x.1) ((body_taken bytes x.0 x.1).0, openings_in-fit n x.0.1 rest x.2)

pub openings_in-take : (n : ℕ) (bytes rest : List ℕ) → bodies_end n bytes ≡ Some rest
    → Takes bytes (flat_map body_text (openings_in n bytes)) rest
openings_in-take zero bytes rest e =
    unfold openings_in bodies_end in (let same : bytes ≡ rest = cc in rw same (Takes-none rest))
openings_in-take (suc n) bytes rest e =
    let x = bodies_end-step n bytes rest e in
    rw (openings_in-step n bytes x.0 x.1, flat_map-cons body_text)
    (Takes-then _ _ _ _ _ (body_taken bytes x.0 x.1).1 (openings_in-take n x.0.1 rest x.2))

-- the bodies of openings are read as these openings, whatever follows
pub regroup_bodies : (o : Opening) (os : List Opening) (rest : List ℕ) → flat_map body_text (o ∷ os) ++ rest ≡ body_text o ++ (flat_map body_text os ++ rest)
regroup_bodies o os rest = rw (flat_map-cons body_text, append_assoc)

bodies_end-again : (os : List Opening) (rest : List ℕ) → AllByRecursion IsBody os → bodies_end (length os) (flat_map body_text os ++ rest) ≡ Some rest
unfolding bodies_end
bodies_end-again [] rest fits = refl
bodies_end-again (o ∷ os) rest fits =
    rw (regroup_bodies o os rest, body_again o (flat_map body_text os ++ rest) fits.0) (bodies_end-again os rest fits.1)

pub openings_in-again : (os : List Opening) (rest : List ℕ) → AllByRecursion IsBody os → openings_in (length os) (flat_map body_text os ++ rest) ≡ os
unfolding openings_in
openings_in-again [] rest fits = refl
openings_in-again (o ∷ os) rest fits =
    rw (regroup_bodies o os rest, body_again o (flat_map body_text os ++ rest) fits.0, openings_in-again os rest fits.1)

-- ---- heads

abbrev head_text : Head → List ℕ
head_text head = number_text w8 (axis_number head.axis) ++ number_text w16 head.index ++ number_text w16 head.count

axis_number-of : (n : ℕ) → n ≤ 1 → n ≡ axis_number (axis_of n)
axis_number-of zero le = refl
axis_number-of (suc zero) le = refl
axis_number-of (suc (suc n)) le = absurd (omega arith)

axis_of-number : (axis : Axis) → axis_of (axis_number axis) ≡ axis
axis_of-number axis = grind arith

axis_number-le : (axis : Axis) → axis_number axis ≤ 1
axis_number-le axis = grind arith

abbrev IsHead : Head → Type 0
IsHead head = (head.index ≤ 999) × (head.count ≤ 1000)

abbrev HeadFields : Type 0
HeadFields = (ℕ × ℕ) × ℕ

abbrev head_fields : Codec IsBelow HeadFields
head_fields =
    both (both (number wide8 0 1 (omega arith)) (λ x. number wide16 1 999 (omega arith)) (λ x fits. omega arith))
    (λ x. number wide16 3 1000 (omega arith)) (λ x fits. omega arith)

abbrev head_with : HeadFields → Head
head_with x = record { axis = axis_of x.0.0; index = x.0.1; count = x.1 }

abbrev head_codec : Codec IsBelow Head
head_codec =
    seen head_fields head_with (λ head. ((axis_number head.axis, head.index), head.count)) IsHead head_text
    (λ x fits. ((fits.0.1, fits.1), rw (← axis_number-of x.0.0 fits.0.0)))
    (λ head h. (((axis_number-le head.axis, h.0), h.1), refl, rw (axis_of-number head.axis)))

head_is : IsReader IsBelow IsHead head_text 0 head_at
unfolding head_at
head_is = named_is head_codec head_at (λ bytes. refl)

head_again : (h : Head) (rest : List ℕ) → IsHead h → head_at (head_text h ++ rest) ≡ Ok (h, rest)
unfolding head_at
head_again h rest fits = head_codec.again (Head × List ℕ) (λ x. Ok x) h rest fits

-- ---- proofs

ended_some : (head found : Head) (rest : Option (List ℕ)) → ended head rest ≡ Some found → (head ≡ found) × (rest ≡ Some [])
ended_some head found (Some []) e = (cc, refl)
ended_some head found rest e = absurd cc

whole_head_some : (r : Result (Head × List ℕ) BodyFault) (found : Head) → whole_head r ≡ Some found → (rest : List ℕ) × (r ≡ Ok (found, rest)) × (bodies_end found.count rest ≡ Some [])
whole_head_some (Ok x) found e =
    let end = ended_some x.0 found (bodies_end x.0.count x.1) e in
    (x.1, ap (λ (h : Head). Ok (h, x.1)) end.0, rw end.0 at end.1)
whole_head_some (Err d) found e = absurd cc

proof_text-parts : (p : EncodingProof) (head : Head) → axis_number head.axis ≡ axis_number p.axis → head.index ≡ p.index → head.count ≡ length p.openings → proof_text p ≡ head_text head ++ flat_map body_text p.openings
unfolding proof_text
proof_text-parts p head axis index count = rw (axis, index, count)

-- what is read as a proof is spelled so
pub SpellProof-in : (bytes : List ℕ) (head : Head) → IsBytes bytes → head_in bytes ≡ Some head → SpellProof head bytes
unfolding head_in
SpellProof-in bytes head fits e =
    let found = whole_head_some (head_at bytes) head e in
    let taken = taken_of IsBelow IsHead head_text 0 head_at head_is bytes (head, found.0) found.1 in
    let parts = taken.1.parts fits in
    let behind-is : drop 5 bytes ≡ found.0 = ap (drop 5) parts in
    let bodies = (openings_in-take head.count found.0 [] found.2).parts (taken.1.rest_fits fits) in
    let count = length-openings_in head.count found.0 [] found.2 in
    let spelled = proof_text-parts (proof_with head (openings_in head.count found.0)) head refl refl (sym count) in
    let none = append-nil (flat_map body_text (openings_in head.count found.0)) in
    rw behind-is (taken.0.0, taken.0.1, found.2, cc (spelled, parts, bodies, none))

-- and it is within the ranges
pub IsProof-spelled : (head : Head) (bytes : List ℕ) → SpellProof head bytes → IsProof (proof_of head bytes)
IsProof-spelled head bytes h = record {
  index = h.0;
  count = rw (length-openings_in head.count (drop 5 bytes) [] h.2) h.1;
  bodies = openings_in-fit head.count (drop 5 bytes) [] h.2;
}

-- the head of a proof's spelling
abbrev pub head_of : EncodingProof → Head
head_of p = record { axis = p.axis; index = p.index; count = length p.openings }

-- a proof's spelling is read as this proof
pub proof_of-text : (p : EncodingProof) → IsProof p → proof_of (head_of p) (proof_text p) ≡ p
unfolding proof_text
proof_of-text p h =
    let again = rw append-nil at (openings_in-again p.openings [] h.bodies) in
    rw again

bodies_end-all : (os : List Opening) → AllByRecursion IsBody os → bodies_end (length os) (flat_map body_text os) ≡ Some []
bodies_end-all os fits = rw append-nil at (bodies_end-again os [] fits)

pub SpellProof-text : (p : EncodingProof) → IsProof p → SpellProof (head_of p) (proof_text p)
unfolding proof_text
SpellProof-text p h = (h.index, h.count, bodies_end-all p.openings h.bodies, ap proof_text (proof_of-text p h))

pub head_in-text : (p : EncodingProof) → IsProof p → head_in (proof_text p) ≡ Some (head_of p)
unfolding head_in
head_in-text p h =
    rw (
      proof_text-parts p (head_of p) refl refl refl,
      head_again (head_of p) (flat_map body_text p.openings) (h.index, h.count),
      bodies_end-all p.openings h.bodies,
    )

-- bytes that are not read as a proof are the spelling of none
pub no_proof : (bytes : List ℕ) → head_in bytes ≡ None → (p : EncodingProof) → IsProof p → proof_text p ≡ bytes → ⊥
no_proof bytes unread p h same = cc (head_in-text p h)

-- no two proofs have one spelling
pub proof_text-injective : (a b : EncodingProof) → IsProof a → IsProof b → proof_text a ≡ proof_text b → a ≡ b
proof_text-injective a b first second same =
    let head : head_of a ≡ head_of b = cc (head_in-text a first, head_in-text b second) in
    cc (proof_of-text a first, proof_of-text b second)

-- an opening is read where the bodies before it end
pub record IsOpeningAt (place n : ℕ) (bytes : List ℕ) : Type 0 where
  pub from : List ℕ
  pub read : Opening × List ℕ
  pub ends : bodies_end place bytes ≡ Some from
  pub reads : body_at from ≡ Ok read
  pub is : slice_get (openings_in n bytes) place ≡ Some read.0

pub opening_at-place : (place n : ℕ) (bytes rest : List ℕ) → place < n → bodies_end n bytes ≡ Some rest → IsOpeningAt place n bytes
unfolding bodies_end
opening_at-place place zero bytes rest lt e = absurd (omega arith)
opening_at-place zero (suc n) bytes rest lt e =
    let x = bodies_end-step n bytes rest e in
    record { from = bytes; read = x.0; ends = refl; reads = x.1; is = rw (openings_in-step n bytes x.0 x.1) }
opening_at-place (suc place) (suc n) bytes rest lt e =
    let x = bodies_end-step n bytes rest e in
    let inner = opening_at-place place n x.0.1 rest (omega arith) x.2 in
    record {
      from = inner.from;
      read = inner.read;
      ends = rw x.1 inner.ends;
      reads = inner.reads;
      is = rw (openings_in-step n bytes x.0 x.1) inner.is;
    }

-- what is read where the bodies before it end
pub read_opening : (place n : ℕ) (bytes end from : List ℕ) (x : Opening × List ℕ) → place < n → bodies_end n bytes ≡ Some end → Some from ≡ bodies_end place bytes → body_at from ≡ Ok x → slice_get (openings_in n bytes) place ≡ Some x.0
read_opening place n bytes end from x lt e starts reads =
    let at = opening_at-place place n bytes end lt e in
    cc

-- the bodies before it do end, and then an opening can be read
pub bodies_end-before : (place n : ℕ) (bytes end : List ℕ) → place < n → bodies_end n bytes ≡ Some end → None ≡ bodies_end place bytes → ⊥
bodies_end-before place n bytes end lt e ends = let at = opening_at-place place n bytes end lt e in cc

pub body_at-before : (place n : ℕ) (bytes end from : List ℕ) (fault : BodyFault) → place < n → bodies_end n bytes ≡ Some end → Some from ≡ bodies_end place bytes → body_at from ≡ Err fault → ⊥
body_at-before place n bytes end from fault lt e starts reads =
    let at = opening_at-place place n bytes end lt e in
    cc

-- what the reader of heads finds
pub head_found : (bytes : List ℕ) (r : Option Head) → IsBytes bytes → r ≡ head_in bytes → IfSome r (λ head. SpellProof head bytes)
head_found bytes None fits e = tt
head_found bytes (Some head) fits e = SpellProof-in bytes head fits (sym e)

-- bytes in which no head is found are the text of no proof
pub head_unread : (bytes : List ℕ) (r : Option Head) → r ≡ head_in bytes → IfNone r ((p : EncodingProof) → IsProof p → proof_text p ≡ bytes → ⊥)
head_unread bytes None e = no_proof bytes (sym e)
head_unread bytes (Some head) e = tt

-- bytes that are a proof's spelling are read as this proof
pub proof_of-spelled : (head : Head) (bytes : List ℕ) (p : EncodingProof) → SpellProof head bytes → IsProof p → proof_text p ≡ bytes → proof_of head bytes ≡ p
proof_of-spelled head bytes p whole h same = proof_text-injective (proof_of head bytes) p (IsProof-spelled head bytes whole) h (whole.3 ∙ sym same)

-- ---- a loop over bodies

pub bodies_end-next : (count i : ℕ) (bytes : List ℕ) (r : Result (Opening × List ℕ) BodyFault) → i < count
    → body_at bytes ≡ r → bodies_end (count - i) bytes ≡ behind r (bodies_end (count - (i + 1)))
unfolding bodies_end
bodies_end-next count i bytes r lt e = let k : count - i ≡ suc (count - (i + 1)) = omega arith in rw (k, e)

pub bodies_end-done : (count i : ℕ) (bytes : List ℕ) → count ≤ i → bodies_end (count - i) bytes ≡ Some bytes
unfolding bodies_end
bodies_end-done count i bytes le = let k : count - i ≡ 0 = omega arith in rw k

-- what a writer writes is the proof's spelling
pub written_proof : (head : Head) (openings : List Opening) → head.count ≡ length openings → (axis_number head.axis ∷ []) ++ number_text w16 head.index ++ number_text w16 head.count ++ flat_map body_text openings ≡ proof_text (proof_with head openings)
written_proof head openings count =
    let byte = byte_text (axis_number head.axis) (omega (arith, axis_number-le head.axis)) in
    cc (proof_text-parts (proof_with head openings) head refl refl count, byte)

-- a proof whose number of openings the head tells is spelled with this head
pub SpellProof-with : (head : Head) (openings : List Opening) (bytes : List ℕ) → IsProof (proof_with head openings) → head.count ≡ length openings → bytes ≡ proof_text (proof_with head openings) → SpellProof head bytes × (proof_of head bytes ≡ proof_with head openings)
SpellProof-with head openings bytes h count same =
    let p = proof_with head openings in
    let heads : head_of p ≡ head = rw (← count) in
    rw (same, ← heads) (SpellProof-text p h, proof_of-text p h)

-- the head's bytes are there
pub length-head : (head : Head) (bytes : List ℕ) → SpellProof head bytes → 5 ≤ length bytes
unfolding proof_text
length-head head bytes h = rw (← h.3) (omega arith)
