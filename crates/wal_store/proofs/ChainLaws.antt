-- Chains of pages, and what a change of some pages leaves of the others.
use Rattle.wal_store.proofs.Common.{◌≡◌, ℕ, zero, suc, ◌+◌, ◌<◌, ◌≤◌, cond, List, [], ◌∷◌, slice_get, slice_index, refl, ap, ◌∙◌, arith, eq-eqb, ◌-◌, ◌*◌, min, ◌++◌, length, take, drop, count_by, sym, ◌≢◌, inl, inr, take-add, take-nil, take_min, take-append-drop, drop_all, append-nil, take-take, drop-take, drop_at, drop-append-le, cases_eq, PageState, IsTakenPage, is_free, page_bytes, Linked, links, joined, uses, taken_at, Adds, Frees, pages_for}
use Rattle.std.proofs.lemmas.List.{length-take, length-drop, drop-drop}

pub taken_at-le : (ss : List PageState) (k : ℕ) → taken_at ss k ≤ 1
taken_at-le ss k = grind arith

-- a page at which a taken one is counted is taken
pub taken_is : (ss : List PageState) (k : ℕ) → 0 < taken_at ss k → IsTakenPage ss k
taken_is ss k is = grind arith

-- with k in front it is used once more
pub uses_self : (k : ℕ) (ks : List ℕ) → uses k (k ∷ ks) ≡ 1 + uses k ks
uses_self k ks = ap (λ b. cond {A = ℕ} b 1 0 + uses k ks) (eq-eqb k k refl)

-- the uses of k are those in the first number and those in the others
pub uses_cons : (k j : ℕ) (ks : List ℕ) → uses k (j ∷ ks) ≡ uses k (j ∷ []) + uses k ks
uses_cons k j ks = omega arith

-- a chain stays where the successors of its pages stay
pub links_same : (N M : List ℕ) (n h : ℕ) → ((j : ℕ) → 0 < uses j (links N n h) → slice_index M j ≡ slice_index N j) → links M n h ≡ links N n h
links_same N M zero h same = refl
links_same N M (suc n) h same =
    let ks : List ℕ = links N n (slice_index N h) in
    let here : slice_index M h ≡ slice_index N h = same h (omega (arith, uses_self h ks)) in
    cc (here, links_same N M n (slice_index N h) (λ j is. same j (omega (arith, uses_cons j h ks))))

-- and so do its bytes
pub joined_same : (P Q : List PageState) (ks : List ℕ) → ((j : ℕ) → 0 < uses j ks → slice_get Q j ≡ slice_get P j) → joined Q ks ≡ joined P ks
joined_same P Q [] same = refl
joined_same P Q (k ∷ ks) same =
    let rest = joined_same P Q ks (λ j is. same j (omega (arith, is, uses_cons j k ks))) in
    cc (same k (omega (arith, uses_self k ks)), rest)

-- a page that was taken is none of those that are added
pub adds_apart : (a b : Linked) (ks : List ℕ) (j : ℕ) → Adds a b ks → 0 < taken_at a.states j → uses j ks ≡ 0
adds_apart a b ks j adds is = omega (arith, adds.counts j, taken_at-le b.states j)

pub adds_none : (a : Linked) → Adds a a []
adds_none a = record { counts = λ k. omega arith; states = λ k is. refl; next = λ k is. refl }

pub adds_more : (a b c : Linked) (p : ℕ) (ks : List ℕ) → Adds a b ks → Adds b c (p ∷ []) → Adds a c (p ∷ ks)
adds_more a b c p ks first then = record {
  counts = λ k. omega (arith, first.counts k, then.counts k, uses_cons k p ks);
  states = λ k none. then.states k (omega (arith, uses_cons k p ks)) ∙ first.states k (omega (arith, uses_cons k p ks));
  next = λ k none. then.next k (omega (arith, uses_cons k p ks)) ∙ first.next k (omega (arith, uses_cons k p ks));
}

-- ---- The loops that store bytes in a chain and give a chain back.

pub take-append : (n : ℕ) (xs ys : List ℕ) → take n (xs ++ ys) ≡ take n xs ++ take (n - length xs) ys
take-append (suc n) (x ∷ xs) ys =
    let same : n - length xs ≡ suc n - length (x ∷ xs) = omega arith in cc (same, take-append n xs ys)
take-append (suc n) [] ys = let whole : suc n ≡ suc n - length {A = ℕ} [] = omega arith in ap (λ m. take m ys) whole
take-append n xs ys = grind arith

-- one more page at the front of what is stored
page_stored : (size : ℕ) (page rest all : List ℕ) → length page ≡ size → take (min size (length all)) page ≡ take size all → take (length all - size) rest ≡ drop size all → take (length all) (page ++ rest) ≡ all
page_stored size page rest all long front back =
    let whole : min (length all) (length page) ≡ min size (length all) = omega (arith, long) in
    let n : length all - length page ≡ length all - size = omega (arith, long) in
    cc (take-append (length all) page rest, take_min (length all) page, whole, n, take-append-drop size all)

-- so many chunks from the end of the bytes are stored
pub record Stored (size : ℕ) (old now : Linked) (bytes : List ℕ) (done left first : ℕ) : Type 0 where
  pub adds : Adds old now (links now.next done first)
  pub content : take (length bytes - size * left) (joined now.states (links now.next done first)) ≡ drop (size * left) bytes
  pub free : count_by is_free now.states + done ≡ count_by is_free old.states

-- at the start none of the bytes are stored, if the pages left have room for them
pub stored_none : (size : ℕ) (old : Linked) (bytes : List ℕ) (left first : ℕ) → length bytes ≤ size * left → Stored size old old bytes 0 left first
stored_none size old bytes left first all = record {
  adds = adds_none old;
  content = take-nil (length bytes - size * left) ∙ sym (drop_all (size * left) bytes all);
  free = omega arith;
}

pub stored_more : (size : ℕ) (old now next : Linked) (bytes chunk : List ℕ) (done left first page : ℕ) → Stored size old now bytes done (suc left) first → Adds now next (page ∷ []) → slice_index next.next page ≡ first → length (page_bytes next.states page) ≡ size → take (length chunk) (page_bytes next.states page) ≡ chunk → chunk ≡ take size (drop (size * left) bytes) → count_by is_free next.states + 1 ≡ count_by is_free now.states → Stored size old next bytes (suc done) left page
stored_more size old now next bytes chunk done left first page so_far adds link long front is free =
    let ks : List ℕ = links now.next done first in
    let apart : (j : ℕ) → 0 < uses j ks → uses j (page ∷ []) ≡ 0 =
    λ j used. omega (arith, so_far.adds.counts j, adds.counts j, taken_at-le next.states j) in
    let same_links : links next.next done first ≡ ks = links_same now.next next.next done first (λ j used. adds.next j (apart j used)) in
    let chain : links next.next (suc done) page ≡ page ∷ ks = cc (link, same_links) in
    let same_bytes : joined next.states ks ≡ joined now.states ks = joined_same now.states next.states ks (λ j used. adds.states j (apart j used)) in
    let all : List ℕ = drop (size * left) bytes in
    let size_all : length all ≡ length bytes - size * left = length-drop (size * left) bytes in
    let later : size * suc left ≡ size * left + size = omega arith in
    let fewer : length all - size ≡ length bytes - size * suc left = omega (arith, size_all, later) in
    let content = page_stored size (page_bytes next.states page) (joined next.states ks) all long
    (cc (length-take size all)) (cc (so_far.content, drop-drop size (size * left) bytes)) in
    record {
      adds = rw chain (adds_more old now next page ks so_far.adds adds);
      content = cc (content, chain, size_all);
      free = omega (arith, so_far.free, free);
    }

pub links_first : (N : List ℕ) (n m h : ℕ) → n ≡ suc m → links N n h ≡ h ∷ links N m (slice_index N h)
links_first N n m h e = ap (λ i. links N i h) e

-- the first page of a chain of pages that are taken
pub first_taken : (ss : List PageState) (N : List ℕ) (n m h : ℕ) → n ≡ suc m
    → ((k : ℕ) → uses k (links N n h) ≤ taken_at ss k) → taken_at ss h ≡ 1
first_taken ss N n m h e all =
    let self = uses_self h (links N m (slice_index N h)) in
    omega (arith, all h, ap (uses h) (links_first N n m h e), taken_at-le ss h, self)

-- what is left of a chain that is given back page by page
pub record Giving (old now : Linked) (whole rest : List ℕ) : Type 0 where
  pub taken : (k : ℕ) → uses k rest ≤ taken_at now.states k
  pub counts : (k : ℕ) → taken_at now.states k + uses k whole ≡ taken_at old.states k + uses k rest
  pub states : (k : ℕ) → uses k whole ≡ 0 → slice_get now.states k ≡ slice_get old.states k
  pub next : now.next ≡ old.next
  pub within : (k : ℕ) → uses k rest ≤ uses k whole

pub giving_more : (old now then : Linked) (whole : List ℕ) (n left page next : ℕ) → left ≡ suc n
    → Giving old now whole (links old.next left page) → Frees now then (page ∷ []) → next ≡ slice_index now.next page
    → Giving old then whole (links old.next n next)
giving_more old now then whole n left page next more so_far frees after =
    let rest : List ℕ = links old.next n next in
    let chain : links old.next left page ≡ page ∷ rest = cc (links_first old.next left n page more, so_far.next) in
    let g : Giving old now whole (page ∷ rest) = rw chain at so_far in
    record {
      taken = λ k. omega (arith, g.taken k, frees.counts k, uses_cons k page rest);
      counts = λ k. omega (arith, g.counts k, frees.counts k, uses_cons k page rest);
      states = λ k none. frees.states k (omega (arith, g.within k, uses_cons k page rest)) ∙ g.states k none;
      next = frees.next ∙ g.next;
      within = λ k. omega (arith, g.within k, uses_cons k page rest);
    }

-- the bytes reach into each page that they need, and not past the last
pub pages_reach : (size n : ℕ) → n < pages_for size → 4096 * n < size
unfolding pages_for
pages_reach size n below = omega arith

-- the pages for a size have room for it
pub pages_hold : (size : ℕ) → size ≤ 4096 * pages_for size
unfolding pages_for
pages_hold size = omega arith

-- the bytes up to the end or the size are the chunk of this size
pub chunk_is : (size start end : ℕ) (bytes : List ℕ) → end ≡ min (length bytes) (start + size) → take (end - start) (drop start bytes) ≡ take size (drop start bytes)
chunk_is size start end bytes is =
    let rest : List ℕ = drop start bytes in
    let n : end - start ≡ min size (length rest) = omega (arith, length-drop start bytes) in
    ap (λ m. take m rest) n ∙ take_min size rest

-- ---- The loops that read a chain.

-- the pages of a chain are taken
abbrev pub AreTaken : Linked → ℕ → ℕ → Type 0
AreTaken l count first = (k : ℕ) → uses k (links l.next count first) ≤ taken_at l.states k

pub rest_taken : (l : Linked) (n m h : ℕ) → n ≡ suc m → AreTaken l n h → AreTaken l m (slice_index l.next h)
rest_taken l n m h e all k =
    omega (arith, all k, ap (uses k) (links_first l.next n m h e), uses_cons k h (links l.next m (slice_index l.next h)))

-- what is left to read: the bytes from an offset in a chain on, which are the rest of what is wanted
pub record Reading (l : Linked) (size : ℕ) (want : List ℕ) (total done offset left page : ℕ) : Type 0 where
  pub taken : AreTaken l left page
  pub room : offset + (total - done) ≤ size * left
  pub bytes : take (total - done) (drop offset (joined l.states (links l.next left page))) ≡ drop done want
  pub inside : offset < size

pub record ReadOn (l : Linked) (size : ℕ) (want : List ℕ) (total done offset left page n : ℕ) : Type 0 where
  pub next : Reading l size want total (done + n) 0 (left - 1) (slice_index l.next page)
  pub piece : take n (drop offset (page_bytes l.states page)) ≡ take n (drop done want)

pub reading_more : (l : Linked) (size : ℕ) (want : List ℕ) (total done offset left page n : ℕ) → Reading l size want total done offset left page → 0 < size → length (page_bytes l.states page) ≡ size → n ≡ min (size - offset) (total - done) → done < total → ReadOn l size want total done offset left page n
reading_more l size want total done offset left page n r some long is more =
    let m : ℕ = left - 1 in
    let w : ℕ = total - done in
    let apart : left ≢ 0 = λ none. absurd (omega (arith, r.room, ap (λ x. size * x) none)) in
    let step : left ≡ suc m = omega arith in
    let b : List ℕ = page_bytes l.states page in
    let rest : List ℕ = joined l.states (links l.next m (slice_index l.next page)) in
    let chain : joined l.states (links l.next left page) ≡ b ++ rest = ap (joined l.states) (links_first l.next left m page step) in
    let all : take w (drop offset b ++ rest) ≡ drop done want =
    cc (chain, drop-append-le offset b rest (omega (arith, long, r.inside)), r.bytes) in
    let front : length (drop offset b) ≡ size - offset = length-drop offset b ∙ ap (λ x. x - offset) long in
    let short : n - length (drop offset b) ≡ 0 = omega (arith, front) in
    let piece : take n (drop offset b) ≡ take n (drop done want) =
    cc (all, take-take n w _ (omega arith), take-append n (drop offset b) rest, short, append-nil (take n (drop offset b))) in
    let sum : n + (w - n) ≡ w = omega arith in
    let tail : take (w - n) (drop n (drop offset b ++ rest)) ≡ take (w - n) rest =
    elim (cases_eq n (size - offset)) [
      | inl same ↦ ap (take (w - n)) (drop_at (drop offset b) rest n (front ∙ sym same))
      | inr other ↦ let none : w - n ≡ 0 = omega arith in cc
    ] in
    let fewer : total - (done + n) ≡ w - n = omega arith in
    record {
      next = record {
        taken = rest_taken l left m page step r.taken;
        room = omega (arith, r.room, ap (λ x. size * x) step);
        bytes = cc (fewer, tail, drop-take n (w - n) (drop offset b ++ rest), sum, all, drop-drop n done want);
        inside = some;
      };
      piece = piece;
    }

-- the pages before the first that is read
pub record Walking (l : Linked) (size count first at steps page : ℕ) : Type 0 where
  pub taken : AreTaken l (count - steps) page
  pub bytes : drop (at - size * steps) (joined l.states (links l.next (count - steps) page)) ≡ drop at (joined l.states (links l.next count first))

pub walking_more : (l : Linked) (size count first at steps page : ℕ) → Walking l size count first at steps page → steps < count → length (page_bytes l.states page) ≡ size → size * steps + size ≤ at → Walking l size count first at (steps + 1) (slice_index l.next page)
walking_more l size count first at steps page w some long far =
    let m : ℕ = count - (steps + 1) in
    let step : count - steps ≡ suc m = omega arith in
    let b : List ℕ = page_bytes l.states page in
    let rest : List ℕ = joined l.states (links l.next m (slice_index l.next page)) in
    let chain : joined l.states (links l.next (count - steps) page) ≡ b ++ rest = ap (joined l.states) (links_first l.next (count - steps) m page step) in
    let k : ℕ = at - size * (steps + 1) in
    let sum : at - size * steps ≡ size + k = omega arith in
    record {
      taken = rest_taken l (count - steps) m page step w.taken;
      bytes = cc (drop_at b rest size long, drop-drop k size (b ++ rest), sum, chain, w.bytes);
    }

pub reading_first : (l : Linked) (size : ℕ) (want : List ℕ) (total done offset left page : ℕ) → Reading l size want total done offset left page → done < total → taken_at l.states page ≡ 1
reading_first l size want total done offset left page r more =
    let apart : left ≢ 0 = λ none. absurd (omega (arith, r.room, ap (λ x. size * x) none)) in
    first_taken l.states l.next left (left - 1) page (omega arith) r.taken

-- what is written is what is wanted, so far
pub pasted : (old new piece want : List ℕ) (done n : ℕ) → length piece ≡ n → take (done + length piece) new ≡ take done old ++ piece → take done old ≡ take done want → piece ≡ take n (drop done want) → take (done + n) new ≡ take (done + n) want
pasted old new piece want done n long written before is = cc (take-add done n want)
