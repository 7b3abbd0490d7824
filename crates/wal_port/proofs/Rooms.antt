-- Pieces of bytes, one after another.
-- What a slice `&xs[n..]` holds shows as `take (length xs - n) (drop n xs)`.
use Rattle.wal_port.proofs.Common.{◌≡◌, ℕ, ◌+◌, ◌-◌, ◌^◌, ◌<◌, ◌≤◌, ◌⊎◌, min, List, [], ◌∷◌, ◌++◌, length, take, drop, refl, sym, ap, ◌∙◌, inl, inr, arith, take-append-drop, length-append, length-drop, drop_of_length-le, drop-append_seam, take-append_seam, take-length, append-nil, append_assoc, drop-drop, length-take-le, take_all, take_min, Option, subst, take-add, Consumes, Appends}
use Rattle.std.proofs.lemmas.Bool.{cases_lt}
use Rattle.std.proofs.lemmas.Slice.{drop-append-drop}
use Rattle.std.proofs.KnownBytes.{Consumes-trans, Appends-trans}

-- a slice to the end holds the rest
pub take-rest : (n : ℕ) (xs : List ℕ) → take (length xs - n) (drop n xs) ≡ drop n xs
take-rest n xs = ap (λ m. take m (drop n xs)) (sym (length-drop n xs)) ∙ take-length (drop n xs)

-- what is still to come after k more bytes were given
pub drop-given : (bytes held into : List ℕ) (given k : ℕ) → held ≡ bytes
    → take k into ≡ take k (take (length held - given) (drop given held))
    → drop given bytes ≡ take k into ++ drop (given + k) bytes
drop-given bytes held into given k lent copied =
    cc (take-rest given held, take-append-drop k (drop given bytes), drop-drop k given bytes)

-- where pieces are not empty, none is given only at the end
pub drop-none_given : (bytes held into : List ℕ) (given k piece : ℕ) → 0 < piece → held ≡ bytes
    → k ≡ min piece (min (length into) (length (take (length held - given) (drop given held))))
    → k ≡ 0 → 0 < length into → drop (given + k) bytes ≡ []
drop-none_given bytes held into given k piece some lent count none room =
    drop_of_length-le bytes (omega (arith, ap length (take-rest given held), length-drop given held, ap length lent))

-- what one piece and then the next took, in all
pub Consumes-next : (a b c : Option (List ℕ)) (bs into : List ℕ) (k total : ℕ) → Consumes a b bs
    → Consumes b c (take k into) → k ≡ length (take k into) → length bs + k ≡ total
    → (taken : List ℕ) × Consumes a c taken × (length taken ≡ total)
Consumes-next a b c bs into k total first next count sum =
    (bs ++ take k into, Consumes-trans a b c bs (take k into) first next, omega (arith, length-append bs (take k into)))

-- the same, for a bound on what they took
pub Consumes-within : (a b c : Option (List ℕ)) (bs into : List ℕ) (k most : ℕ) → Consumes a b bs
    → Consumes b c (take k into) → k ≡ length (take k into) → length bs + k ≤ most
    → (taken : List ℕ) × Consumes a c taken × (length taken ≤ most)
Consumes-within a b c bs into k most first next count bound =
    let all = Consumes-next a b c bs into k (length bs + k) first next count refl in
    (all.0, all.1, omega (arith, all.2))

-- the first pieces and then the next are the first bytes
pub Appends-next : (a b c : Option (List ℕ)) (bytes : List ℕ) (done k : ℕ) → Appends a b (take done bytes)
    → Appends b c (take k (take (length bytes - done) (drop done bytes))) → Appends a c (take (done + k) bytes)
Appends-next a b c bytes done k first next =
    let same : take done bytes ++ take k (take (length bytes - done) (drop done bytes)) ≡ take (done + k) bytes =
    ap (λ l. take done bytes ++ take k l) (take-rest done bytes) ∙ sym (take-add done k bytes) in
    subst (Appends a c) same (Appends-trans a b c (take done bytes) _ first next)

-- ---- A text of which the front stands in a room: how many bytes were taken, and what has no room, when a piece more is taken.
-- What a slice `&xs[n..]` holds shows as `take (length xs - n) (drop n xs)`.

-- the last value of a counter of 64 bits
abbrev most : ℕ
most = 2 ^ 64 - 1

-- the count of what was taken is that of what stands in the room and beyond
pub counted_more : (n c beyond start piece kept more later : ℕ) → n < 2 ^ 64 → c ≡ min (min c n + beyond) most → start ≡ min c n
    → kept ≡ min piece (n - start) → more ≡ min (c + piece) most → later ≡ beyond + (piece - kept) → more ≡ min (min more n + later) most
counted_more n c beyond start piece kept more later fits counted at keeps adds goes =
    omega (arith, fits, counted, at, keeps, adds, goes)

-- what lies behind a count is the same behind a greater one
pub drop_further : (xs ys : List ℕ) (c more : ℕ) → c ≤ more → drop c xs ≡ drop c ys → drop more xs ≡ drop more ys
drop_further xs ys c more up same =
    let e : c + (more - c) ≡ more = omega (arith, up) in
    cc (drop-drop (more - c) c xs, drop-drop (more - c) c ys)

-- a piece put into the room leaves what lies behind it
pub drop_put : (room piece : List ℕ) (start more : ℕ) → start ≤ length room → start + length piece ≤ more
    → drop more (take start room ++ piece ++ drop (start + length piece) room) ≡ drop more room
drop_put room piece start more within behind =
    drop-append-drop (start + length piece) room (take start room ++ piece) more behind
    (length-append (take start room) piece ∙ ap (λ k. k + length piece) (length-take-le start room within))

-- nothing is beyond, or nothing more is kept
swap : (front kept beyond rest : List ℕ) → (length beyond ≡ 0) ⊎ (length kept ≡ 0)
    → (front ++ kept) ++ (beyond ++ rest) ≡ (front ++ beyond) ++ (kept ++ rest)
swap front kept [] rest (inl e) = append_assoc front kept rest ∙ ap (λ l. l ++ (kept ++ rest)) (sym (append-nil front))
swap front kept (x ∷ xs) rest (inl e) = absurd (omega (arith, e))
swap front [] beyond rest (inr e) = ap (λ l. l ++ (beyond ++ rest)) (append-nil front) ∙ sym (append_assoc front beyond rest)
swap front (x ∷ xs) beyond rest (inr e) = absurd (omega (arith, e))

-- what stands in the room then, up to the count
front_more : (room piece : List ℕ) (c start more : ℕ) → length room < 2 ^ 64 → start ≡ min c (length room) → 0 < length piece
    → more ≡ min (c + length piece) most
    → let kept : ℕ = min (length piece) (length room - start) in
    take more (take start room ++ take kept piece ++ drop (start + length (take kept piece)) room) ≡ take start room ++ take kept piece
front_more room piece c start more fits at some adds =
    let kept : ℕ = min (length piece) (length room - start) in
    let long : length (take kept piece) ≡ kept = length-take-le kept piece (omega arith) in
    let within : start ≤ length room = omega (arith, at) in
    let whole : length (take start room ++ take kept piece) ≡ start + kept =
    length-append (take start room) (take kept piece) ∙ (omega (arith, length-take-le start room within, long)) in
    elim (cases_lt (length room - start) (length piece)) as (λ _. take more (take start room ++ take kept piece ++ drop (start + length (take kept piece)) room) ≡ take start room ++ take kept piece) [
      | inl past ↦
          let none : drop (start + length (take kept piece)) room ≡ [] = drop_of_length-le room (omega (arith, long, past, within)) in
          let all = take_all more (take start room ++ take kept piece) (omega (arith, whole, past, within, adds, at, fits)) in
          cc (none, all, append-nil (take start room ++ take kept piece))
      | inr room_for ↦
          let e : more ≡ length (take start room ++ take kept piece) = omega (arith, whole, room_for, within, adds, at, fits, some) in
          cc (e, take-append_seam (take start room ++ take kept piece) (drop (start + length (take kept piece)) room))
    ]

-- the text that was taken grows by the piece
pub text_more : (room beyond piece : List ℕ) (c start more : ℕ) → length room < 2 ^ 64
    → c ≡ min (min c (length room) + length beyond) most → start ≡ min c (length room) → 0 < length piece
    → more ≡ min (c + length piece) most
    → let kept : ℕ = min (length piece) (length room - start) in
    take more (take start room ++ take kept piece ++ drop (start + length (take kept piece)) room)
    ++ (beyond ++ take (length piece - kept) (drop kept piece))
    ≡ (take c room ++ beyond) ++ piece
text_more room beyond piece c start more fits counted at some adds =
    let kept : ℕ = min (length piece) (length room - start) in
    let rest : take (length piece - kept) (drop kept piece) ≡ drop kept piece =
    ap (λ m. take m (drop kept piece)) (sym (length-drop kept piece)) ∙ take-length (drop kept piece) in
    let long : length (take kept piece) ≡ kept = length-take-le kept piece (omega arith) in
    let front : take start room ≡ take c room = ap (λ k. take k room) at ∙ take_min c room in
    let one : (length beyond ≡ 0) ⊎ (length (take kept piece) ≡ 0) = grind arith in
    let swapped = swap (take start room) (take kept piece) beyond (drop kept piece) one in
    cc (front_more room piece c start more fits at some adds, rest, swapped, take-append-drop kept piece, front)

-- how much is beyond
pub beyond_more : (beyond piece later : List ℕ) (kept : ℕ) → later ≡ beyond ++ take (length piece - kept) (drop kept piece)
    → length later ≡ length beyond + (length piece - kept)
beyond_more beyond piece later kept e =
    let rest : List ℕ = take (length piece - kept) (drop kept piece) in
    omega (arith, ap length e, length-append beyond rest, length-take-le (length piece - kept) (drop kept piece), length-drop kept piece)

-- the text that was taken, from what stands in the room and what is beyond
pub text_put : (room beyond piece new later : List ℕ) (c start kept more : ℕ) → length room < 2 ^ 64
    → c ≡ min (min c (length room) + length beyond) most → start ≡ min c (length room) → 0 < length piece
    → kept ≡ min (length piece) (length room - start) → more ≡ min (c + length piece) most
    → new ≡ take start room ++ take kept piece ++ drop (start + length (take kept piece)) room
    → later ≡ beyond ++ take (length piece - kept) (drop kept piece)
    → take more new ++ later ≡ (take c room ++ beyond) ++ piece
text_put room beyond piece new later c start kept more fits counted at some keeps adds puts goes =
    rw (puts, goes, keeps) (text_more room beyond piece c start more fits counted at some adds)

-- the same behind what stands before it
pub mark_more : (name : ℕ) (first room new text more piece : List ℕ) → length new ≡ length room → more ≡ text ++ piece
    → (name ∷ length new ∷ (first ++ more)) ≡ (name ∷ length room ∷ ((first ++ text) ++ take (length piece) piece))
mark_more name first room new text more piece long same =
    cc (append_assoc first text piece, take-length piece)

-- what lies behind the count then
pub untouched_put : (room first piece new : List ℕ) (c start kept more : ℕ) → length room < 2 ^ 64
    → c ≤ more → start ≡ min c (length room)
    → kept ≡ min (length piece) (length room - start) → more ≡ min (c + length piece) most
    → new ≡ take start room ++ take kept piece ++ drop (start + length (take kept piece)) room
    → drop c room ≡ drop c first → drop more new ≡ drop more first
untouched_put room first piece new c start kept more fits up at keeps adds puts same =
    let long : length (take kept piece) ≡ kept = length-take-le kept piece (omega (arith, keeps)) in
    ap (drop more) puts ∙ drop_put room (take kept piece) start more (omega (arith, at)) (omega (arith, long, keeps, at, adds, fits))
    ∙ drop_further room first c more up same

-- ---- for who hands out a room, and has its sink back from a call that names only what was written

-- the first number of a list, and the others
first_of : List ℕ → ℕ
first_of [] = 0
first_of (x ∷ xs) = x

others_of : List ℕ → List ℕ
others_of [] = []
others_of (x ∷ xs) = xs

-- it is the sink over the same room, and its text is what was written
pub same_sink : (name other n : ℕ) (first found text more : List ℕ) → length found ≡ n
    → (other ∷ n ∷ (found ++ more)) ≡ ((name ∷ length first ∷ first) ++ text)
    → (name ≡ other) × (found ≡ first) × (more ≡ text)
unfolding others_of first_of
same_sink name other n first found text more long same =
    let tail : (n ∷ (found ++ more)) ≡ ((length first ∷ first) ++ text) = ap others_of same in
    let both : found ++ more ≡ first ++ text = ap others_of tail in
    let size : length found ≡ length first = long ∙ ap first_of tail in
    let front : found ≡ first = cc (take-append_seam found more, take-append_seam first text) in
    let rest : more ≡ text = cc (drop-append_seam found more, drop-append_seam first text) in
    (sym (ap first_of same), front, rest)

-- a list of no length is empty
is_none : (l : List ℕ) → length l ≡ 0 → l ≡ []
is_none [] e = refl
is_none (x ∷ xs) e = absurd (omega (arith, e))

-- what stands in the room is the front of the text, and behind it what stood there first
pub room_holds : (room beyond first text : List ℕ) (c : ℕ) → length room < 2 ^ 64 → length first ≡ length room
    → c ≡ min (min c (length room) + length beyond) most → drop c room ≡ drop c first → take c room ++ beyond ≡ text
    → room ≡ take (length first) text ++ drop (length text) first
room_holds room beyond first text c fits whole counted untouched is =
    elim (cases_lt c (length room)) as (λ _. room ≡ take (length first) text ++ drop (length text) first) [
      | inl below ↦
          let none : length beyond ≡ 0 = omega (arith, below, counted, fits) in
          let front : take c room ≡ text = cc (append-nil (take c room), is_none beyond none) in
          let long : length text ≡ c = omega (arith, ap length front, length-take-le c room) in
          let whole_text = take_all (length first) text (omega (arith, long, below, whole)) in
          cc (take-append-drop c room, front, whole_text, long)
      | inr full ↦
          let all : take c room ≡ room = take_all c room full in
          let parts : room ++ beyond ≡ text = cc in
          let long : length first ≤ length text = omega (arith, ap length parts, length-append room beyond, whole) in
          cc (append-nil room, take-append_seam room beyond, whole, drop_of_length-le first long)
    ]
