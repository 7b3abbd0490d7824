-- What taking a page, giving one back and writing to one do to the region, its free pages and their states.
use Rattle.wal_pool.proofs.Common.{◌≡◌, ◌≢◌, ℕ, ◌+◌, ◌-◌, ◌*◌, ◌^◌, ◌<◌, ◌≤◌, true, Some, List, [], ◌∷◌, length, slice_get, slice_set, get_or, count_by, take, refl, sym, ap, ◌∙◌, arith, w32, from_be_bytes, to_be_bytes, count_by-le-length, PageState, Free, Taken, is_free, bytes_in, page_bytes, IsTakenPage, AreWhole, overwrite, page_of, next, chain, is_free_list, states}
use Rattle.wal_pool.proofs.OverwriteLaws.{length-overwrite}
use Rattle.wal_pool.proofs.StateLaws.{length-page_of, page_within, page_of-overwrite, page_of-overwrite_other, next-overwrite_other, next-link, chain-same, chain-first, Listed, listed_parts, listed_from, length-states, slice_get-states, state_free, state_taken, has_first, states-take, states-link, states-write, Out, out_from}
use Rattle.wal_pool.proofs.PageLaws.{count-take, count-give, count-write}

-- the four bytes with which a page begins
pub four_bytes : (p : List ℕ) → 4 ≤ length p → from_be_bytes w32 (get_or p 0 0 ∷ get_or p 1 0 ∷ get_or p 2 0 ∷ get_or p 3 0 ∷ []) ≡ from_be_bytes w32 (take 4 p)
four_bytes (a ∷ b ∷ c ∷ d ∷ p) long = refl
four_bytes p long = absurd (omega arith)

-- the invariant of a pool
pub record Sound (size pages : ℕ) (r : List ℕ) (free first : ℕ) : Type 0 where
  pub large : length r ≡ size * pages
  pub listed : is_free_list pages (chain size r free first) ≡ true
  pub counted : free ≡ count_by is_free (states size pages r (chain size r free first))

-- a page was taken off the list: n is the number of the next free one
pub record Took (size pages : ℕ) (r : List ℕ) (free first n : ℕ) (old : List PageState) : Type 0 where
  pub sound : Sound size pages r (free - 1) n
  pub was : slice_get old first ≡ Some Free
  pub now : states size pages r (chain size r (free - 1) n) ≡ slice_set old first (Taken (page_bytes (states size pages r (chain size r (free - 1) n)) first))
  pub own : IsTakenPage (states size pages r (chain size r (free - 1) n)) first
  pub long : length (page_bytes (states size pages r (chain size r (free - 1) n)) first) ≡ size

-- the first of the free pages is taken
pub took : (size pages : ℕ) (r : List ℕ) (free first n : ℕ) (seen : List PageState) → Sound size pages r free first → free ≢ 0 → n ≡ next size r first → states size pages r (chain size r free first) ≡ seen → Took size pages r free first n seen
took size pages r free first n seen sound some read view =
    let ks : List ℕ = chain size r (free - 1) (next size r first) in
    let old : List PageState = states size pages r (chain size r free first) in
    let new : List PageState = states size pages r ks in
    let e : chain size r free first ≡ first ∷ ks = chain-first size r free (free - 1) first (omega arith) in
    let l : Listed pages first ks = listed_parts pages first ks (rw e at sound.listed) in
    let free_state = state_free size r (first ∷ ks) first (has_first first ks) in
    let was : slice_get old first ≡ Some Free = cc (e, slice_get-states size pages r _ first l.below, free_state) in
    let seen_now : slice_get new first ≡ Some (Taken (page_of size r first)) =
    cc (slice_get-states size pages r ks first l.below, state_taken size r ks first l.absent) in
    let bytes : page_bytes new first ≡ page_of size r first = ap bytes_in seen_now in
    let set : new ≡ slice_set old first (Taken (page_of size r first)) = cc (states-take size pages r ks first l, e) in
    let fewer = count-take old first (page_of size r first) was in
    let count = ap (count_by is_free) set in
    let room : size * first + size ≤ length r = omega (arith, sound.large, page_within size pages first l.below) in
    let all : Took size pages r free first (next size r first) old = record {
      sound = record { large = sound.large; listed = l.rest; counted = omega (arith, fewer, count, sound.counted) };
      was = was;
      now = cc (set, bytes);
      own = cc (seen_now, bytes);
      long = ap length bytes ∙ length-page_of size r first room;
    } in
    rw (← view, read) all

-- a page that was taken is the first of the free ones
pub record Linked (size pages : ℕ) (s : List ℕ) (free k : ℕ) (old : List PageState) : Type 0 where
  pub sound : Sound size pages s (free + 1) k
  pub room : free + 1 ≤ pages
  pub now : states size pages s (chain size s (free + 1) k) ≡ slice_set old k Free

-- a page that is given back is the first of the free ones
pub linked : (size pages : ℕ) (r s : List ℕ) (free first k : ℕ) (seen : List PageState) → 4 ≤ size → first < 2 ^ 32 → Sound size pages r free first → states size pages r (chain size r free first) ≡ seen → IsTakenPage seen k → s ≡ overwrite r (size * k) (to_be_bytes w32 first) → Linked size pages s free k seen
linked size pages r s free first k seen large fits sound view is_taken write =
    let bytes : List ℕ = to_be_bytes w32 first in
    let t : List ℕ = overwrite r (size * k) bytes in
    let ks : List ℕ = chain size r free first in
    let old : List PageState = states size pages r ks in
    let taken : IsTakenPage old k = rw (← view) at is_taken in
    let out : Out size pages r ks k = out_from size pages r ks k taken in
    let room : size * k + size ≤ length r = omega (arith, page_within size pages k out.below) in
    let same : (j : ℕ) → j ≢ k → page_of size t j ≡ page_of size r j = λ j other. page_of-overwrite_other size r k j 0 (size * k) bytes (omega arith) large room other in
    let next_same : (j : ℕ) → j ≢ k → next size t j ≡ next size r j = λ j other. next-overwrite_other size r k j 0 (size * k) bytes (omega arith) large room other in
    let next_is : next size t k ≡ first = next-link size r k first large room fits in
    let e : chain size t (free + 1) k ≡ k ∷ ks =
    let rest = chain-same size r t k free first next_same out.absent in
    cc (chain-first size t (free + 1) free k (omega arith), next_is, rest) in
    let set : states size pages t (chain size t (free + 1) k) ≡ slice_set old k Free =
    cc (e, states-link size pages r t ks k out.below same) in
    let count : count_by is_free (states size pages t (chain size t (free + 1) k)) ≡ count_by is_free old + 1 =
    cc (set, count-give old k (page_bytes old k) taken) in
    let most = count_by-le-length is_free (states size pages t (chain size t (free + 1) k)) in
    let all : Linked size pages t free k old = record {
      sound = record {
        large = length-overwrite r (size * k) bytes ∙ sound.large;
        listed = rw e (listed_from pages k ks out.below out.absent sound.listed);
        counted = omega (arith, count, sound.counted);
      };
      room = omega (arith, count, most, length-states size pages t (chain size t (free + 1) k), sound.counted);
      now = set;
    } in
    rw (← view, write) all

-- a page that was taken is written
pub record Wrote (size pages : ℕ) (s : List ℕ) (free first k at : ℕ) (bytes : List ℕ) (old : List PageState) : Type 0 where
  pub sound : Sound size pages s free first
  pub now : states size pages s (chain size s free first) ≡ slice_set old k (Taken (overwrite (page_bytes old k) at bytes))

-- bytes were written to a taken page, and nowhere else
pub wrote : (size pages : ℕ) (r s : List ℕ) (free first k at m : ℕ) (bytes : List ℕ) (seen : List PageState) → at + length bytes ≤ size → Sound size pages r free first → states size pages r (chain size r free first) ≡ seen → IsTakenPage seen k → m ≡ size * k + at → s ≡ overwrite r m bytes → Wrote size pages s free first k at bytes seen
wrote size pages r s free first k at m bytes seen fits sound view is_taken place write =
    let t : List ℕ = overwrite r m bytes in
    let ks : List ℕ = chain size r free first in
    let old : List PageState = states size pages r ks in
    let taken : IsTakenPage old k = rw (← view) at is_taken in
    let out : Out size pages r ks k = out_from size pages r ks k taken in
    let room : size * k + size ≤ length r = omega (arith, page_within size pages k out.below) in
    let same : (j : ℕ) → j ≢ k → page_of size t j ≡ page_of size r j = λ j other. page_of-overwrite_other size r k j at m bytes place fits room other in
    let next_same : (j : ℕ) → j ≢ k → next size t j ≡ next size r j = λ j other. next-overwrite_other size r k j at m bytes place fits room other in
    let e : chain size t free first ≡ ks = chain-same size r t k free first next_same out.absent in
    let here : page_of size t k ≡ overwrite (page_bytes old k) at bytes =
    cc (page_of-overwrite size r k at m bytes place, out.bytes) in
    let set : states size pages t (chain size t free first) ≡ slice_set old k (Taken (overwrite (page_bytes old k) at bytes)) =
    cc (e, states-write size pages r t ks k out.below out.absent same, here) in
    let kept = count-write old k (page_bytes old k) (overwrite (page_bytes old k) at bytes) taken in
    let all : Wrote size pages t free first k at bytes old = record {
      sound = record {
        large = length-overwrite r m bytes ∙ sound.large;
        listed = rw e sound.listed;
        counted = cc (sound.counted, kept, set);
      };
      now = set;
    } in
    rw (← view, write) all

-- a page that is taken lies within the region
pub taken_within : (size pages : ℕ) (r : List ℕ) (free first k : ℕ) (seen : List PageState) → length r ≡ size * pages → states size pages r (chain size r free first) ≡ seen → IsTakenPage seen k → size * k + size ≤ length r
taken_within size pages r free first k seen large view is_taken =
    let out = out_from size pages r (chain size r free first) k (rw (← view) at is_taken) in
    omega (arith, page_within size pages k out.below)

-- its bytes in the region are those that are seen
pub taken_bytes : (size pages : ℕ) (r : List ℕ) (free first k : ℕ) (seen : List PageState) → states size pages r (chain size r free first) ≡ seen → IsTakenPage seen k → page_of size r k ≡ page_bytes seen k
taken_bytes size pages r free first k seen view is_taken =
    cc ((out_from size pages r (chain size r free first) k (rw (← view) at is_taken)).bytes)

-- and they are as many as a page has, so each page that is taken has all its bytes
pub pages_whole : (size pages : ℕ) (r : List ℕ) (free first : ℕ) (seen : List PageState) → length r ≡ size * pages → states size pages r (chain size r free first) ≡ seen → AreWhole size seen
pages_whole size pages r free first seen large view k is_taken =
    ap length (sym (taken_bytes size pages r free first k seen view is_taken))
    ∙ length-page_of size r k (taken_within size pages r free first k seen large view is_taken)
