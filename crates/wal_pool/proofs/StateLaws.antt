-- A write to one page leaves the others, and the list of the free pages where it is not one of them.
use Rattle.wal_pool.proofs.Common.{◌≡◌, ◌≢◌, ℕ, ◌<◌, true, false, inl, inr, Some, List, ◌∷◌, map, length, slice_get, slice_set, get_or, refl, sym, ap, ◌∙◌, arith, cond, range_with_len, cases_eq, cases_Bool, ne_eqb, eq-eqb, get_or-set_same, get_or-set_other, same_lists, slice_get_within, slice_get-get_or, Free, Taken, page_bytes, IsTakenPage, page_of, has, state_of, states, zero, suc, ◌+◌, ◌-◌, ◌*◌, ◌^◌, ◌≤◌, not, ◌&&◌, take, drop, nat_eq, nat_lt, mul-le-mul_left, length-drop, length-take-le, w32, from_be_bytes, to_be_bytes, cases_order, and_parts, or_parts, eqb-false, ltb-true, not-true, overwrite, next, chain, is_free_list, [], replicate, count_by, subst, length-replicate, get_or-replicate, sum_by-cons, get_or_from_slice_get, PageState, is_free, bytes_in, AreWhole}
use Rattle.std.proofs.lemmas.List.{length-set}
use Rattle.std.proofs.lemmas.List.FromFn.{length-map-range_with_len, get_or-map-range_with_len}
use Rattle.std.proofs.lemmas.Bool.Decides.{nat_tests}
use Rattle.std.proofs.lemmas.Nat.{from_be_bytes-to_be_bytes_4}
use Rattle.std.proofs.lemmas.Slice.{drop-put_mid, take-put_mid_below}
use Rattle.wal_pool.proofs.OverwriteLaws.{take-overwrite, drop-overwrite, overwrite_is}
use Rattle.wal_pool.proofs.PageLaws.{slice_get-set_same, slice_get-set_other}

pub length-page_of : (size : ℕ) (r : List ℕ) (k : ℕ) → size * k + size ≤ length r → length (page_of size r k) ≡ size
unfolding page_of
length-page_of size r k room = length-take-le size (drop (size * k) r) (omega (arith, length-drop (size * k) r))

-- a page lies within the region
pub page_within : (size pages k : ℕ) → k < pages → size * k + size ≤ size * pages
page_within size pages k below = let less : k + 1 ≤ pages = omega arith in omega (arith, mul-le-mul_left size less)

pub page_of-overwrite : (size : ℕ) (r : List ℕ) (k at m : ℕ) (bs : List ℕ) → m ≡ size * k + at → page_of size (overwrite r m bs) k ≡ overwrite (page_of size r k) at bs
unfolding page_of
page_of-overwrite size r k at m bs e = ap (take size) (drop-overwrite (size * k) r at m bs e) ∙ take-overwrite size (drop (size * k) r) at bs

page_before : (size : ℕ) (r : List ℕ) (k j at m : ℕ) (bs : List ℕ) → m ≡ size * k + at → at + length bs ≤ size → size * k + size ≤ length r → j < k → page_of size (overwrite r m bs) j ≡ page_of size r j
unfolding page_of
page_before size r k j at m bs e fits room below =
    let apart : size * j + size ≤ size * k = page_within size k j below in
    let n : ℕ = m - size * j in
    let far : size ≤ n = omega arith in
    let long : n + length bs ≤ length (drop (size * j) r) = omega (arith, length-drop (size * j) r) in
    ap (take size) (drop-overwrite (size * j) r n m bs (omega arith) ∙ overwrite_is (drop (size * j) r) n bs long)
    ∙ take-put_mid_below n (length bs) (drop (size * j) r) bs size far (omega arith)

page_after : (size : ℕ) (r : List ℕ) (k j at m : ℕ) (bs : List ℕ) → m ≡ size * k + at → at + length bs ≤ size → size * k + size ≤ length r → k < j → page_of size (overwrite r m bs) j ≡ page_of size r j
unfolding page_of
page_after size r k j at m bs e fits room above =
    let apart : size * k + size ≤ size * j = page_within size j k above in
    ap (λ ys. take size (drop (size * j) ys)) (overwrite_is r m bs (omega arith))
    ∙ ap (take size) (drop-put_mid m (length bs) r bs (size * j) (omega arith) (omega arith) refl)

pub page_of-overwrite_other : (size : ℕ) (r : List ℕ) (k j at m : ℕ) (bs : List ℕ) → m ≡ size * k + at → at + length bs ≤ size → size * k + size ≤ length r → j ≢ k → page_of size (overwrite r m bs) j ≡ page_of size r j
page_of-overwrite_other size r k j at m bs e fits room other =
    elim (cases_order j k) [
      | inl same ↦ absurd (other same)
      | inr (inl below) ↦ page_before size r k j at m bs e fits room below
      | inr (inr above) ↦ page_after size r k j at m bs e fits room above
    ]

pub next-overwrite_other : (size : ℕ) (r : List ℕ) (k j at m : ℕ) (bs : List ℕ) → m ≡ size * k + at → at + length bs ≤ size → size * k + size ≤ length r → j ≢ k → next size (overwrite r m bs) j ≡ next size r j
unfolding next
next-overwrite_other size r k j at m bs e fits room other = ap (λ p. from_be_bytes w32 (take 4 p)) (page_of-overwrite_other size r k j at m bs e fits room other)

-- a number written at the front is read there
front-overwrite : (p : List ℕ) (h : ℕ) → 4 ≤ length p → take 4 (overwrite p 0 (to_be_bytes w32 h)) ≡ to_be_bytes w32 h
front-overwrite (a ∷ b ∷ c ∷ d ∷ p) h long = refl
front-overwrite p h long = absurd (omega arith)

pub next-link : (size : ℕ) (r : List ℕ) (k h : ℕ) → 4 ≤ size → size * k + size ≤ length r → h < 2 ^ 32 → next size (overwrite r (size * k) (to_be_bytes w32 h)) k ≡ h
unfolding next
next-link size r k h large room fits =
    ap (λ p. from_be_bytes w32 (take 4 p)) (page_of-overwrite size r k 0 (size * k) (to_be_bytes w32 h) (omega arith))
    ∙ ap (from_be_bytes w32) (front-overwrite (page_of size r k) h (omega (arith, length-page_of size r k room)))
    ∙ from_be_bytes-to_be_bytes_4 h fits

-- a number that is not in a list is not its first, and not in its rest
pub absent_parts : (k x : ℕ) (xs : List ℕ) → has k (x ∷ xs) ≡ false → (k ≢ x) × (has k xs ≡ false)
absent_parts k x xs absent = let parts = or_parts (nat_eq k x) (has k xs) absent in (eqb-false k x parts.0, parts.1)

-- a chain stays if only the link of a page changes that is not on it
pub chain-same : (size : ℕ) (r s : List ℕ) (k n h : ℕ) → ((j : ℕ) → j ≢ k → next size s j ≡ next size r j) → has k (chain size r n h) ≡ false → chain size s n h ≡ chain size r n h
chain-same size r s k zero h same absent = refl
chain-same size r s k (suc n) h same absent =
    let parts = absent_parts k h (chain size r n (next size r h)) absent in
    cc (same h (λ e. parts.0 (sym e)), chain-same size r s k n (next size r h) same parts.1)

-- a chain of some pages is its first page and the chain from the next one
pub chain-first : (size : ℕ) (r : List ℕ) (n m h : ℕ) → n ≡ suc m → chain size r n h ≡ h ∷ chain size r m (next size r h)
chain-first size r n m h e = ap (λ i. chain size r i h) e

-- a list of free pages, and its rest
pub record Listed (pages k : ℕ) (ks : List ℕ) : Type 0 where
  pub below : k < pages
  pub absent : has k ks ≡ false
  pub rest : is_free_list pages ks ≡ true

pub listed_parts : (pages k : ℕ) (ks : List ℕ) → is_free_list pages (k ∷ ks) ≡ true → Listed pages k ks
listed_parts pages k ks ok =
    let outer = and_parts (nat_lt k pages && not (has k ks)) (is_free_list pages ks) ok in
    let inner = and_parts (nat_lt k pages) (not (has k ks)) outer.0 in
    record { below = ltb-true k pages inner.0; absent = not-true (has k ks) inner.1; rest = outer.1 }

-- a page that is not on the free list may come to its front
pub listed_from : (pages k : ℕ) (ks : List ℕ) → k < pages → has k ks ≡ false → is_free_list pages ks ≡ true → is_free_list pages (k ∷ ks) ≡ true
listed_from pages k ks below absent rest = grind (arith, nat_tests)

-- ---- How the states of the pages change with the region and the list of the free pages.

-- functions that agree but at one place make lists that differ there alone
pub map-range-set : {X : Type 0} (f g : ℕ → X) (n k : ℕ) (s : X) → k < n → g k ≡ s → ((j : ℕ) → j ≢ k → g j ≡ f j) → map g (range_with_len 0 n) ≡ slice_set (map f (range_with_len 0 n)) k s
map-range-set {X} f g n k s below here others =
    let long = length-map-range_with_len g 0 n in
    let long_f = length-map-range_with_len f 0 n in
    same_lists (map g (range_with_len 0 n)) (slice_set (map f (range_with_len 0 n)) k s)
    (long ∙ sym (length-set (map f (range_with_len 0 n)) k s ∙ long_f))
    (λ j d at. let lt : j < n = omega (arith, long) in
    get_or-map-range_with_len g 0 n j j d lt (omega arith)
    ∙ elim (cases_eq j k) [
      | inl same ↦ ap g same ∙ here ∙ sym (ap (λ i. get_or (slice_set (map f (range_with_len 0 n)) k s) i d) same ∙ get_or-set_same (map f (range_with_len 0 n)) k s d (omega (arith, long_f)))
      | inr other ↦ others j other ∙ sym (get_or-set_other (map f (range_with_len 0 n)) k j s d other ∙ get_or-map-range_with_len f 0 n j j d lt (omega arith))
    ])

pub length-states : (size pages : ℕ) (r ks : List ℕ) → length (states size pages r ks) ≡ pages
unfolding states
length-states size pages r ks = length-map-range_with_len (state_of size r ks) 0 pages

pub slice_get-states : (size pages : ℕ) (r ks : List ℕ) (k : ℕ) → k < pages → slice_get (states size pages r ks) k ≡ Some (state_of size r ks k)
unfolding states
slice_get-states size pages r ks k below = cc (
  slice_get-get_or (states size pages r ks) k Free (omega (arith, length-states size pages r ks)),
  get_or-map-range_with_len (state_of size r ks) 0 pages k k Free below (omega arith),
)

-- a page of the list is free
pub state_free : (size : ℕ) (r ks : List ℕ) (k : ℕ) → has k ks ≡ true → state_of size r ks k ≡ Free
state_free size r ks k e = ap (λ b. cond b Free (Taken (page_of size r k))) e

-- another is taken, with its bytes
pub state_taken : (size : ℕ) (r ks : List ℕ) (k : ℕ) → has k ks ≡ false → state_of size r ks k ≡ Taken (page_of size r k)
state_taken size r ks k e = ap (λ b. cond b Free (Taken (page_of size r k))) e

-- a list has its first number
pub has_first : (k : ℕ) (ks : List ℕ) → has k (k ∷ ks) ≡ true
has_first k ks = let e = eq-eqb k k refl in grind arith

has_other : (j k : ℕ) (ks : List ℕ) → j ≢ k → has j (k ∷ ks) ≡ has j ks
has_other j k ks other = let e = ne_eqb j k other in grind arith

state_other : (size : ℕ) (r ks : List ℕ) (j k : ℕ) → j ≢ k → state_of size r (k ∷ ks) j ≡ state_of size r ks j
state_other size r ks j k other = ap (λ b. cond b Free (Taken (page_of size r j))) (has_other j k ks other)

-- the first page of the list is taken off it
pub states-take : (size pages : ℕ) (r ks : List ℕ) (k : ℕ) → Listed pages k ks → states size pages r ks ≡ slice_set (states size pages r (k ∷ ks)) k (Taken (page_of size r k))
unfolding states
states-take size pages r ks k listed =
    map-range-set (state_of size r (k ∷ ks)) (state_of size r ks) pages k (Taken (page_of size r k)) listed.below
    (state_taken size r ks k listed.absent)
    (λ j other. sym (state_other size r ks j k other))

-- a page is put on the list
pub states-link : (size pages : ℕ) (r s ks : List ℕ) (k : ℕ) → k < pages → ((j : ℕ) → j ≢ k → page_of size s j ≡ page_of size r j) → states size pages s (k ∷ ks) ≡ slice_set (states size pages r ks) k Free
unfolding states
states-link size pages r s ks k below same =
    map-range-set (state_of size r ks) (state_of size s (k ∷ ks)) pages k Free below
    (state_free size s (k ∷ ks) k (has_first k ks))
    (λ j other. state_other size s ks j k other ∙ ap (λ p. cond (has j ks) Free (Taken p)) (same j other))

-- a page that is not on the list is written
pub states-write : (size pages : ℕ) (r s ks : List ℕ) (k : ℕ) → k < pages → has k ks ≡ false → ((j : ℕ) → j ≢ k → page_of size s j ≡ page_of size r j) → states size pages s ks ≡ slice_set (states size pages r ks) k (Taken (page_of size s k))
unfolding states
states-write size pages r s ks k below absent same =
    map-range-set (state_of size r ks) (state_of size s ks) pages k (Taken (page_of size s k)) below
    (state_taken size s ks k absent)
    (λ j other. ap (λ p. cond (has j ks) Free (Taken p)) (same j other))

-- a page that is taken is in the region, and not on the list
pub record Out (size pages : ℕ) (r ks : List ℕ) (k : ℕ) : Type 0 where
  pub below : k < pages
  pub absent : has k ks ≡ false
  pub bytes : page_bytes (states size pages r ks) k ≡ page_of size r k

-- a page whose state is taken is in the region, and not on the list
pub out_from : (size pages : ℕ) (r ks : List ℕ) (k : ℕ) → IsTakenPage (states size pages r ks) k → Out size pages r ks k
out_from size pages r ks k taken =
    let lt : k < pages = omega (arith, slice_get_within (states size pages r ks) k _ taken, length-states size pages r ks) in
    let found = slice_get-states size pages r ks k lt in
    elim (cases_Bool (has k ks)) [
      | inl listed ↦ cc (state_free size r ks k listed)
      | inr away ↦ record { below = lt; absent = away; bytes = cc (found, state_taken size r ks k away) }
    ]

-- ---- A pool is made of pages that are all taken, which are then given back one by one.

count-taken : (f : ℕ → List ℕ) (a n : ℕ) → count_by is_free (map (λ k. Taken (f k)) (range_with_len a n)) ≡ 0
count-taken f a zero = refl
count-taken f a (suc n) = sum_by-cons (λ (s : PageState). cond (is_free s) 1 0) (Taken (f a)) (map (λ k. Taken (f k)) (range_with_len (a + 1) n)) ∙ ap (λ m. 0 + m) (count-taken f (a + 1) n)

-- with no page on the list, none is free
pub count-states-none : (size pages : ℕ) (r : List ℕ) → count_by is_free (states size pages r []) ≡ 0
unfolding states
count-states-none size pages r = count-taken (page_of size r) 0 pages

-- and each is taken
pub taken-states-none : (size pages : ℕ) (r : List ℕ) (k : ℕ) → k < pages → IsTakenPage (states size pages r []) k
taken-states-none size pages r k below = let e = slice_get-states size pages r [] k below in e ∙ ap (λ o. Some (Taken (bytes_in o))) (sym e)

-- the pages below a number are free, and the others are taken
pub record Given (pages n : ℕ) (xs : List PageState) : Type 0 where
  pub long : length xs ≡ pages
  pub free : (k : ℕ) → k < n → slice_get xs k ≡ Some Free
  pub taken : (k : ℕ) → n ≤ k → k < pages → IsTakenPage xs k

-- with no page on the list, no page is free
pub given_none : (size pages : ℕ) (r : List ℕ) → Given pages 0 (states size pages r [])
given_none size pages r = record {
  long = length-states size pages r [];
  free = λ k lt. absurd (omega arith);
  taken = λ k ge lt. taken-states-none size pages r k lt;
}

-- if the page of this number is freed as well, one page more is free
pub given_more : (pages n : ℕ) (xs ys : List PageState) → n < pages → Given pages n xs → ys ≡ slice_set xs n Free → Given pages (n + 1) ys
given_more pages n xs ys lt given e = record {
  long = ap length e ∙ length-set xs n Free ∙ given.long;
  free = λ k below. elim (cases_eq k n) [
    | inl same ↦ cc (same, slice_get-set_same xs n Free (omega (arith, given.long)))
    | inr other ↦ cc (slice_get-set_other xs n k Free other, given.free k (omega arith))
  ];
  taken = λ k ge below.
      let other : k ≢ n = omega arith in
      cc (slice_get-set_other xs n k Free other, given.taken k (omega arith) below);
}

-- if each page is below the number, the states are all Free
pub given_all : (pages : ℕ) (xs : List PageState) → Given pages pages xs → xs ≡ replicate pages Free
given_all pages xs given =
    same_lists xs (replicate pages Free) (given.long ∙ sym (length-replicate pages Free))
    (λ k d lt. get_or_from_slice_get xs k Free d (given.free k (omega (arith, given.long))) ∙ sym (get_or-replicate pages k Free d (omega (arith, given.long))))

none_taken : (n k : ℕ) → IsTakenPage (replicate n Free) k → ⊥
none_taken (suc n) (suc k) taken = none_taken n k taken
none_taken n k taken = cc

-- where all pages are free, none lacks a byte
pub whole_free : (size n : ℕ) (xs : List PageState) → xs ≡ replicate n Free → AreWhole size xs
whole_free size n xs all k taken = absurd (none_taken n k (subst (λ (ys : List PageState). IsTakenPage ys k) all taken))
