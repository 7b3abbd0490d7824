-- The image of the puts of payloads: a disk holds it, or the first record that does not fit is told.
use Rattle.wal_run.proofs.Common.{◌≡◌, ℕ, zero, suc, ◌+◌, ◌-◌, ◌<◌, ◌≤◌, List, [], ◌∷◌, ◌++◌, length, take, get_or, replicate, Ok, Err, refl, sym, ap, ◌∙◌, arith, length-append, le-ltb, take_at, take_more, length-replicate, BlobId, Part, Contents, Call, Put, no_contents, IsJournal, spelling, records, Accepts, puts_of, records-append, spelling_size, room_of, room_behind, image_from, image_of, imaging}
use Rattle.std.proofs.lemmas.Bool.{lt-ltb}
use Rattle.std.proofs.lemmas.List.{append_assoc, append-nil}
use Rattle.wal_run.proofs.CommandLaws.{Determined}

-- ---- the image by its records

-- the records of changes, one of which stands in the midst
length-records-parts : (first : List Call) (c : Call) (rest : List Call) → length (records (first ++ c ∷ rest)) ≡ length (records first) + room_of c + length (records rest)
length-records-parts first c rest =
    omega (arith, ap length (records-append first (c ∷ rest)), length-append (records first) (1 ∷ (spelling c ++ records rest)), length-append (spelling c) (records rest))

-- where all records and a gate fit
image_fits : (size : ℕ) (first rest : List Call) → length (records (first ++ rest)) + 1 ≤ size → image_from size first rest ≡ Ok (records (first ++ rest) ++ 0 ∷ [])
image_fits size first [] fits = ap (λ (l : List Call). Ok (records l ++ 0 ∷ [])) (sym (append-nil first))
image_fits size first (c ∷ rest) fits =
    let room = le-ltb (room_behind size first) (room_of c) (omega (arith, fits, length-records-parts first c rest)) in
    let parts = append_assoc first (c ∷ []) rest in
    rw (room, ← parts) (image_fits size (first ++ c ∷ []) rest (rw parts fits))

-- where those of the first changes fit, and the next does not
image_full : (size : ℕ) (first before : List Call) (c : Call) (rest : List Call) → length (records (first ++ before)) + 1 ≤ size → room_behind size (first ++ before) < room_of c
    → image_from size first (before ++ c ∷ rest) ≡ Err (room_of c, room_behind size (first ++ before))
image_full size first [] c rest fits full =
    let same = append-nil first in
    rw (same, lt-ltb (room_behind size first) (room_of c) (rw same at full)) refl
image_full size first (d ∷ before) c rest fits full =
    let room = le-ltb (room_behind size first) (room_of d) (omega (arith, fits, length-records-parts first d before)) in
    let parts = append_assoc first (d ∷ []) before in
    rw (room, ← parts) (image_full size (first ++ d ∷ []) before c rest (rw parts fits) (rw parts full))

-- ---- what a disk holds

-- zeros are an image of no changes
pub zeros_accept : (n : ℕ) → 1 ≤ n → Accepts (replicate n 0) []
zeros_accept zero some = absurd (omega (arith, some))
zeros_accept (suc n) some = record { stands = record { whole = tt; gate = 0; rest = replicate n 0; is = refl; closed = λ one. absurd (omega (arith, one)) }; lawful = tt }

-- the records of accepted changes and a gate behind them have their place
accepted_fits : (now : List ℕ) (changes : List Call) → Accepts now changes → length (records changes) + 1 ≤ length now
accepted_fits now changes accepts = omega (arith, ap length accepts.stands.is, length-append (records changes) (accepts.stands.gate ∷ accepts.stands.rest))

pub image_made : (now : List ℕ) (size tail : ℕ) (puts : List Call) → Accepts now puts → length now ≡ size → tail ≡ length (records puts) → get_or now tail 0 ≡ 0 → image_of size puts ≡ Ok (take (tail + 1) now)
image_made now size tail puts accepts long at closed =
    let fits : length (records puts) + 1 ≤ length now = accepted_fits now puts accepts in
    let front : take tail now ≡ records puts =
    ap (λ (l : List ℕ). take tail l) accepts.stands.is ∙ take_at (records puts) (accepts.stands.gate ∷ accepts.stands.rest) tail (sym at) in
    rw (take_more now tail 0 (omega (arith, fits, at)), front, closed)
    (image_fits size [] puts (omega (arith, fits, long)))

pub image_refused : (now : List ℕ) (size tail needed free : ℕ) (puts first : List Call) (c : Call) (rest : List Call) → Accepts now first → length now ≡ size → tail ≡ length (records first) → puts ≡ first ++ c ∷ rest
    → needed ≡ room_of c → free ≡ length now - tail - 1 → free < needed → image_of size puts ≡ Err (needed, free)
image_refused now size tail needed free puts first c rest accepts long at are needs left full =
    let fits : length (records first) + 1 ≤ length now = accepted_fits now first accepts in
    let room : free ≡ room_behind size first = omega (arith, left, long, at) in
    rw (are, needs, room) (image_full size [] first c rest (omega (arith, fits, long))
    (omega (arith, room, needs, full)))

-- ---- the command has one result

pub imaged_once : (digest : List ℕ → List ℕ) (size : ℕ) → Determined digest (imaging digest size)
imaged_once digest size input payloads spells s x t y a b = grind arith

-- ---- the command

first_zero : (n : ℕ) (zeros : List ℕ) → zeros ≡ replicate n 0 → get_or zeros 0 0 ≡ 0
first_zero zero zeros is = ap (λ (b : List ℕ). get_or b 0 0) is
first_zero (suc n) zeros is = ap (λ (b : List ℕ). get_or b 0 0) is

module _ (digest : List ℕ → List ℕ) (size : ℕ) (payloads : List (List ℕ)) where
  module _ (held : Contents) (old new : List ℕ) where
    -- all puts were made, over nothing
    pub packed_made : (shown : List ℕ) (tail now count : ℕ) → old ≡ replicate size 0 → IsJournal old tail held [] → ((changes : List Call) → Accepts old changes → Accepts new (changes ++ puts_of digest held payloads))
        → now ≡ tail + length (records (puts_of digest held payloads)) → ((puts_of digest held payloads ≡ [] → get_or old tail 0 ≡ 0) → get_or new now 0 ≡ 0) → length new ≡ length old → shown ≡ new → count ≡ now
        → image_of size (puts_of digest no_contents payloads) ≡ Ok (take (count + 1) shown)
    packed_made shown tail now count zeros blank accepts moved gate long same counted =
        let none : tail ≡ 0 = sym blank.at in
        let closed : get_or new now 0 ≡ 0 = gate (λ empty. ap (λ (k : ℕ). get_or old k 0) none ∙ first_zero size old zeros) in
        ap (λ (m : Contents). image_of size (puts_of digest m payloads)) (sym blank.holds)
        ∙ image_made new size now (puts_of digest held payloads) (accepts [] blank.accepts) (long ∙ ap length zeros ∙ length-replicate size 0) (omega (arith, moved, none)) closed
        ∙ (λ i. Ok (take (sym counted i + 1) (sym same i)))

    -- those before the first put that does not fit were made
    pub packed_refused : (tail now needed free : ℕ) → old ≡ replicate size 0 → IsJournal old tail held [] → (first : List Call) (id : BlobId) (part : Part) (bytes : List ℕ) (rest : List Call) → puts_of digest held payloads ≡ first ++ Put id part bytes ∷ rest
        → length id.0 ≡ 32 → ((changes : List Call) → Accepts old changes → Accepts new (changes ++ first)) → now ≡ tail + length (records first) → length new ≡ length old
        → needed ≡ 39 + length bytes → free ≡ length new - now - 1 → free < needed → image_of size (puts_of digest no_contents payloads) ≡ Err (needed, free)
    packed_refused tail now needed free zeros blank first id part bytes rest are wide accepts moved long needs left full =
        let none : tail ≡ 0 = sym blank.at in
        ap (λ (m : Contents). image_of size (puts_of digest m payloads)) (sym blank.holds)
        ∙ image_refused new size now needed free (puts_of digest held payloads) first (Put id part bytes) rest (accepts [] blank.accepts) (long ∙ ap length zeros ∙ length-replicate size 0) (omega (arith, moved, none)) are
        (omega (arith, needs, spelling_size (Put id part bytes) wide)) left full
