-- Bytes that are taken in pieces.
use Rattle.wal_serve.proofs.Common.{◌≡◌, ℕ, ◌+◌, ◌-◌, ◌<◌, ◌≤◌, inl, inr, List, [], ◌∷◌, ◌++◌, length, take, drop, Option, refl, sym, ap, subst, ◌∙◌, append_assoc, append-nil, arith, Consumes, IsAtEnd, Consumes-trans, length-append, length-drop, nil_from_length, take-append-add, take-take, take_all, length-take-le, Took, Takes, whole, ended, ◌^◌, get_or, Some, None, number_text, envelope, IsPart, size_in, head_parts, Lack, PayloadRoom, Lacks, lack_of, IsHead, IsEnvelope}
use Rattle.std.proofs.lemmas.Slice.{take-put_mid}
use borrow.Rule.Slice.PartMut.{put_mid, same_len_mid}
use Rattle.wal_port.specs.Faults.{Rose}
use Rattle.std.specs.Int.{w16, w32, from_be_bytes}
use Rattle.std.proofs.lemmas.Nat.{from_be_bytes-to_be_bytes_4}
use Rattle.wal_shape.proofs.Numbers.{IsBytes, IsBytes-drop, IsBytes-take, wide32}

-- a count that did not fall before it rose rose
pub rose_since : (a b c : ℕ) → a ≤ b → Rose b c → Rose a c
rose_since a b c le (inl rose) = inl (omega arith)
rose_since a b c le (inr last) = inr last

-- the source ended behind what was taken
pub ends_behind : (a b c : Option (List ℕ)) (Up : Type 0) (size most : ℕ) (got piece : List ℕ) → Consumes a b got → Consumes b c piece → length piece ≡ 0
    → length got < size → length got ≤ most → IsAtEnd c → Takes a c Up size most Took.Ended got
ends_behind a b c Up size most got piece first next none few within end =
    let nil : got ++ piece ≡ got = ap (λ (t : List ℕ). got ++ t) (nil_from_length piece none) ∙ append-nil got in
    ended got (subst (Consumes a c) nil (Consumes-trans a b c got piece first next)) few within end

-- the byte behind the most that may be taken
pub takes_past : (a b c : Option (List ℕ)) (Late Up : Type 0) (size most : ℕ) (took : Took) (front got : List ℕ) → Consumes a b front → length front ≡ most → most < size
    → (Late → Up) → Takes b c Late 1 0 took got → Takes a c Up size most took (front ++ got)
takes_past a b c Late Up size most _ front _ first long less up (whole got more all within) = absurd (omega arith)
takes_past a b c Late Up size most _ front _ first long less up (ended got more few within end) =
    ended (front ++ got) (Consumes-trans a b c front got first more) (omega (arith, length-append front got)) (omega (arith, length-append front got)) end
takes_past a b c Late Up size most _ front _ first long less up (Takes.too_long got x more few within) =
    let joined : (front ++ got) ++ x ∷ [] ≡ front ++ (got ++ x ∷ []) = append_assoc front got (x ∷ []) in
    let all = subst (Consumes a c) (sym joined) (Consumes-trans a b c front (got ++ x ∷ []) first more) in
    rw (← joined) (Takes.too_long (front ++ got) x all (omega (arith, length-append front got)) (omega (arith, length-append front got)))
takes_past a b c Late Up size most _ front _ first long less up (Takes.failed got more few within late) =
    Takes.failed (front ++ got) (Consumes-trans a b c front got first more) (omega (arith, length-append front got)) (omega (arith, length-append front got)) (up late)

-- a payload that was taken whole is consumed, has its size, and is at most the most
pub took_whole : (a b : Option (List ℕ)) (Up : Type 0) (size most : ℕ) (took : Took) (got : List ℕ) → took ≡ Took.Whole → Takes a b Up size most took got
    → Consumes a b got × (length got ≡ size) × (size ≤ most)
took_whole a b Up size most took got is takes = grind arith

-- what was taken of so many bytes is the same where more may be taken, and where more are wanted if not all were taken
pub took_of : (a b : Option (List ℕ)) (Up : Type 0) (size more most : ℕ) (took : Took) (got : List ℕ) → size ≤ more → size ≤ most
    → (took ≡ Took.Whole → more ≡ size) → Takes a b Up size size took got → Takes a b Up more most took got
took_of a b Up size more most took got le within same takes = grind (arith, whole, ended, Takes.failed)

-- ---- pieces in a slice

-- one more piece behind the first bytes
pub next_taken : (done n : ℕ) (into piece : List ℕ) → done ≤ length into → n ≤ length piece
    → take (done + n) (put_mid done (length into - done) into piece) ≡ take done into ++ take n piece
next_taken done n into piece le few =
    let written = put_mid done (length into - done) into piece in
    let all : take (done + length piece) written ≡ take done into ++ piece = take-put_mid done (length into - done) into piece (done + length piece) refl le in
    let front : length (take done into) ≡ done = length-take-le done into le in
    sym (take-take (done + n) (done + length piece) written (omega arith)) ∙ ap (take (done + n)) all
    ∙ ap (λ (k : ℕ). take (k + n) (take done into ++ piece)) (sym front) ∙ take-append-add (take done into) piece n

pub next_consumed : (a b c : Option (List ℕ)) (done n : ℕ) (into piece : List ℕ) → done ≤ length into → n ≤ length piece → Consumes a b (take done into) → Consumes b c (take n piece)
    → Consumes a c (take (done + n) (put_mid done (length into - done) into piece))
next_consumed a b c done n into piece le few first next =
    subst (Consumes a c) (sym (next_taken done n into piece le few)) (Consumes-trans a b c (take done into) (take n piece) first next)

-- a slice into which a piece was written is as long as before
pub written_long : (done : ℕ) (into piece : List ℕ) → done ≤ length into → length piece ≡ length (take (length into - done) (drop done into))
    → (length (put_mid done (length into - done) into piece) ≡ length into) × (length (take done into) ≡ done)
    × (length piece ≡ length into - done)
written_long done into piece le same = (
  same_len_mid done (length into - done) into piece same,
  length-take-le done into le,
  same ∙ length-take-le (length into - done) (drop done into) (omega (arith, length-drop done into)),
)

-- the whole slice was filled
pub taken_whole : (a b : Option (List ℕ)) (Up : Type 0) (done : ℕ) (into : List ℕ) → done ≤ length into → length into ≤ done → Consumes a b (take done into)
    → (got : List ℕ) × Takes a b Up (length into) (length into) Took.Whole got × (Took.Whole ≡ Took.Whole → into ≡ got)
taken_whole a b Up done into le ge taken =
    let all : take done into ≡ into = take_all done into ge in
    (into, whole into (subst (Consumes a b) all taken) refl (omega arith), λ is. refl)

-- a slice of which the front was written is as long as before
pub front_long : (most : ℕ) (into front : List ℕ) → length front ≡ length (take most into) → most ≤ length into → length (front ++ drop most into) ≡ length into
front_long most into front same le = omega (arith, same, length-take-le most into le, length-append front (drop most into), length-drop most into)

-- ---- the byte behind the most that may be taken

-- it ends the source
pub past_ends : (a c : Option (List ℕ)) (Up : Type 0) (n : ℕ) (piece : List ℕ) → Consumes a c (take n piece) → n ≡ length (take n piece) → n ≡ 0 → IsAtEnd c → Takes a c Up 1 0 Took.Ended []
past_ends a c Up n piece next count none end =
    ended [] (subst (Consumes a c) (nil_from_length (take n piece) (omega (arith, count, none))) next) (omega arith) (omega arith) end

-- it is there
pub past_more : (a c : Option (List ℕ)) (Up : Type 0) (n : ℕ) (piece : List ℕ) → Consumes a c (take n piece) → n ≤ length piece → (n ≡ 0 → ⊥) → length piece ≡ 1
    → (got : List ℕ) × Takes a c Up 1 0 Took.TooLong got
past_more a c Up n (x ∷ []) next le some one =
    let all : take n (x ∷ []) ≡ x ∷ [] = take_all n (x ∷ []) (omega (arith, le, some)) in
    (x ∷ [], Takes.too_long [] x (subst (Consumes a c) all next) (omega arith) refl)
past_more a c Up n piece next le some one = absurd (omega (arith, one))

-- ---- envelopes that are taken piece by piece

-- the fields behind the first byte
pub head_of : (fields : List ℕ) → IsBytes fields → length fields ≡ 6 → IsHead (size_in (0x57 ∷ fields)) (0x57 ∷ fields)
head_of fields fits six =
    let parts = head_parts fields fits (omega (arith, six)) in
    let none : drop 6 fields ≡ [] = nil_from_length (drop 6 fields) (omega (arith, length-drop 6 fields, six)) in
    let small : size_in (0x57 ∷ fields) < 2 ^ 32 = wide32.below (take 4 (drop 2 fields)) (IsBytes-take 4 (drop 2 fields) (IsBytes-drop 2 fields fits)) in
    let sender = from_be_bytes w16 (take 2 fields) in
    let text = number_text w16 sender ++ number_text w32 (size_in (0x57 ∷ fields)) in
    record { sender = sender; fits = small; text = ap (λ (t : List ℕ). 0x57 ∷ t) (parts ∙ ap (λ (t : List ℕ). text ++ t) none ∙ append-nil text) }

-- fewer bytes than a head begin no envelope
pub part_short : (bytes : List ℕ) → length bytes < 6 → IsPart (0x57 ∷ bytes)
part_short bytes few = (
  refl,
  λ sender payload after fits same.
      let long : length (0x57 ∷ bytes) ≡ length (envelope sender payload ++ after) = ap length same in
      absurd (omega (arith, long, length-append (envelope sender payload) after)),
)

-- a head and fewer bytes than its payload has begin none
pub part_long : (size : ℕ) (head bytes : List ℕ) → IsHead size head → length bytes < size → IsPart (head ++ bytes)
part_long size head bytes is few =
    let text = 0x57 ∷ (number_text w16 is.sender ++ number_text w32 size) in
    subst (λ (t : List ℕ). IsPart (t ++ bytes)) (sym is.text) (
      refl,
      λ other payload after fits same.
          let size-is : size_in (text ++ bytes) ≡ size = from_be_bytes-to_be_bytes_4 size is.fits in
          let other-is : size_in (envelope other payload ++ after) ≡ length payload = from_be_bytes-to_be_bytes_4 (length payload) fits in
          let sizes : size ≡ length payload = sym size-is ∙ ap size_in same ∙ other-is in
          let long : length (text ++ bytes) ≡ length (envelope other payload ++ after) = ap length same in
          absurd (omega (arith, long, sizes, length-append text bytes, length-append (envelope other payload) after)),
    )

pub head_long : (size : ℕ) (head : List ℕ) → IsHead size head → length head ≡ 7
head_long size head is = ap length is.text ∙ omega arith

-- why the first byte was not taken
abbrev pub first_lack : Took → Lack
first_lack Took.Whole = Lack.Wrong
first_lack Took.Ended = Lack.Nothing
first_lack Took.TooLong = Lack.TooLong
first_lack Took.Failed = Lack.Failed

-- the first byte was not taken
pub first_lacks : (a b : Option (List ℕ)) (Up : Type 0) (size most : ℕ) (t : Took) (got : List ℕ) (lack : Lack) → size ≡ 1 → (t ≡ Took.Whole → ⊥)
    → lack ≡ first_lack t → Takes a b Up size most t got → Lacks a b Up most lack got
first_lacks a b Up size most _ _ lack one not is (whole got more all within) = absurd (not refl)
first_lacks a b Up size most _ _ lack one not is (ended [] more few within end) = rw is (Lacks.nothing more end)
first_lacks a b Up size most _ _ lack one not is (ended (y ∷ got) more few within end) = absurd (omega arith)
first_lacks a b Up size most _ _ lack one not is (Takes.too_long [] x more few within) = rw is (Lacks.too_long [] x more tt within)
first_lacks a b Up size most _ _ lack one not is (Takes.too_long (y ∷ got) x more few within) = absurd (omega arith)
first_lacks a b Up size most _ _ lack one not is (Takes.failed [] more few within up) = rw is (Lacks.failed [] more tt within up)
first_lacks a b Up size most _ _ lack one not is (Takes.failed (y ∷ got) more few within up) = absurd (omega arith)

-- what was taken whole
whole_if : (t : Took) → lack_of t ≡ None → t ≡ Took.Whole
whole_if t is = grind arith

-- the first byte was taken, and it begins no envelope
pub first_wrong : (a b : Option (List ℕ)) (Up : Type 0) (most : ℕ) (t : Took) (got into : List ℕ) → length into ≡ 1 → t ≡ Took.Whole → (t ≡ Took.Whole → into ≡ got)
    → (get_or into 0 0 ≡ 0x57 → ⊥) → Takes a b Up (length into) most t got → Lacks a b Up most Lack.Wrong got
first_wrong a b Up most t got (x ∷ []) one is kept not takes =
    let all = took_whole a b Up 1 most t got is takes in
    rw (← kept is) (Lacks.wrong x (subst (Consumes a b) (sym (kept is)) all.0) not all.2)
first_wrong a b Up most t got into one is kept not takes = absurd (omega (arith, one))

-- what follows the front was not taken whole
pub lacks_behind : (a b c : Option (List ℕ)) (Late Up : Type 0) (size more most : ℕ) (t : Took) (front got : List ℕ) (lack : Lack) → Consumes a b front → 0 < length front
    → length front + more ≡ most → ((rest : List ℕ) → length rest < size → IsPart (front ++ rest)) → (Late → Up) → lack_of t ≡ Some lack
    → Takes b c Late size more t got → Lacks a c Up most lack (front ++ got)
lacks_behind a b c Late Up size more most _ front _ lack first some sum parts up is (whole got next all within) = absurd cc
lacks_behind a b c Late Up size more most _ front _ lack first some sum parts up is (ended got next few within end) =
    let e : lack ≡ Lack.Cut = cc in
    rw e (Lacks.cut (front ++ got) (Consumes-trans a b c front got first next) (parts got few) (omega (arith, length-append front got)) (omega (arith, length-append front got)) end)
lacks_behind a b c Late Up size more most _ front _ lack first some sum parts up is (Takes.too_long got x next few within) =
    let e : lack ≡ Lack.TooLong = cc in
    let joined : (front ++ got) ++ x ∷ [] ≡ front ++ (got ++ x ∷ []) = append_assoc front got (x ∷ []) in
    let all = subst (Consumes a c) (sym joined) (Consumes-trans a b c front (got ++ x ∷ []) first next) in
    rw (e, ← joined) (Lacks.too_long (front ++ got) x all (parts got few) (omega (arith, length-append front got)))
lacks_behind a b c Late Up size more most _ front _ lack first some sum parts up is (Takes.failed got next few within late) =
    let e : lack ≡ Lack.Failed = cc in
    rw e (Lacks.failed (front ++ got) (Consumes-trans a b c front got first next) (parts got few) (omega (arith, length-append front got)) (up late))

-- what follows the first byte was not taken whole
pub lacks_head : (a b c : Option (List ℕ)) (Late Up : Type 0) (six most : ℕ) (t : Took) (first got : List ℕ) (lack : Lack) → (first ≡ 0x57 ∷ []) × Consumes a b first × (1 ≤ most)
    → (Late → Up) → lack_of t ≡ Some lack → six ≡ 6 → Takes b c Late six (most - 1) t got → Lacks a c Up most lack (first ++ got)
lacks_head a b c Late Up six most t first got lack one up is size takes =
    let len : length first ≡ 1 = ap length one.0 in
    lacks_behind a b c Late Up 6 (most - 1) most t first got lack one.1 (omega (arith, len)) (omega (arith, len, one.2))
    (λ rest few. subst (λ (t : List ℕ). IsPart (t ++ rest)) (sym one.0) (part_short rest few)) up is (rw size at takes)

-- the head was taken
pub takes_head : (a b c : Option (List ℕ)) (Late : Type 0) (six most : ℕ) (t : Took) (first got fields : List ℕ) (size : ℕ) → (first ≡ 0x57 ∷ []) × Consumes a b first × (1 ≤ most)
    → lack_of t ≡ None → six ≡ 6 → Takes b c Late six (most - 1) t got → (t ≡ Took.Whole → fields ≡ got) → IsHead size (0x57 ∷ fields)
    → IsHead size (first ++ got) × Consumes a c (first ++ got) × (length (first ++ got) ≤ most)
takes_head a b c Late six most t first got fields size one is six-is takes kept head =
    let full = whole_if t is in
    let all = took_whole b c Late six (most - 1) t got full takes in
    let text : 0x57 ∷ fields ≡ first ++ got = cc (kept full, one.0) in
    let len : length first ≡ 1 = ap length one.0 in (
      subst (IsHead size) text head,
      Consumes-trans a b c first got one.1 all.0,
      omega (arith, len, one.2, all.1, all.2, length-append first got),
    )

-- what follows the head was not taken whole
pub lacks_payload : (a b c : Option (List ℕ)) (Late Up : Type 0) (size most : ℕ) (t : Took) (head got : List ℕ) (lack : Lack) → IsHead size head × Consumes a b head × (length head ≤ most)
    → (Late → Up) → lack_of t ≡ Some lack → Takes b c Late size (most - 7) t got → Lacks a c Up most lack (head ++ got)
lacks_payload a b c Late Up size most t head got lack one up is takes =
    let len = head_long size head one.0 in
    lacks_behind a b c Late Up size (most - 7) most t head got lack one.1 (omega (arith, len)) (omega (arith, len, one.2)) (λ rest few. part_long size head rest one.0 few) up is takes

-- the envelope was taken
pub takes_envelope : (a b c : Option (List ℕ)) (Late : Type 0) (size most : ℕ) (t : Took) (head got : List ℕ) (buffer : PayloadRoom) → IsHead size head × Consumes a b head × (length head ≤ most)
    → lack_of t ≡ None → Takes b c Late size (most - 7) t got → (t ≡ Took.Whole → size ≤ buffer.room → buffer.bytes ≡ got)
    → IsEnvelope size buffer (head ++ got) × Consumes a c (head ++ got) × (length (head ++ got) ≤ most)
takes_envelope a b c Late size most t head got buffer one is takes kept =
    let full = whole_if t is in
    let all = took_whole b c Late size (most - 7) t got full takes in
    let sender = one.0.sender in
    let text : head ++ got ≡ envelope sender got =
    ap (λ (h : List ℕ). h ++ got) one.0.text ∙ ap (λ (k : ℕ). 0x57 ∷ (number_text w16 sender ++ number_text w32 k ++ got)) (sym all.1) in (
      record { sender = sender; payload = got; long = all.1; fits = omega (arith, one.0.fits, all.1); text = text; kept = kept full },
      Consumes-trans a b c head got one.1 all.0,
      omega (arith, head_long size head one.0, one.2, all.1, all.2, length-append head got),
    )
