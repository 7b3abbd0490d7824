-- The rights to pages against the states of the pages.
use Rattle.wal_store.proofs.Common.{◌≡◌, ℕ, zero, suc, ◌+◌, ◌<◌, ◌≤◌, Option, Some, None, List, [], ◌∷◌, length, take, replicate, slice_get, slice_set, get_or, refl, ap, ◌∙◌, arith, set-set, slice_get_within, slice_get_read, slice_get-get_or, get_or_from_slice_get, PageState, Free, Taken, bytes_in, page_bytes, overwrite, slice_get-set_same}
use Rattle.wal_pool.proofs.OverwriteLaws.{length-overwrite, take-overwrite_front}
use Rattle.wal_store.specs.inside.Shelf.{token_of, tokens_of}

length-tokens_of : (a : ℕ) (ss : List PageState) → length (tokens_of a ss) ≡ length ss
length-tokens_of a [] = refl
length-tokens_of a (s ∷ ss) = ap suc (length-tokens_of (suc a) ss)

slice_get-tokens_of : (a : ℕ) (ss : List PageState) (k n : ℕ) (s : PageState) → n ≡ a + k → slice_get ss k ≡ Some s → slice_get (tokens_of a ss) k ≡ Some (token_of n s)
slice_get-tokens_of a (t ∷ ss) (suc k) n s at found = slice_get-tokens_of (suc a) ss k n s (omega arith) found
slice_get-tokens_of a ss k n s at found = grind arith

tokens-set : (a : ℕ) (ss : List PageState) (k n : ℕ) (s : PageState) → n ≡ a + k → slice_set (tokens_of a ss) k (token_of n s) ≡ tokens_of a (slice_set ss k s)
tokens-set a (t ∷ ss) (suc k) n s at = ap (λ ts. token_of a t ∷ ts) (tokens-set (suc a) ss k n s (omega arith))
tokens-set a ss k n s at = grind arith

pub tokens_of-replicate : (a n : ℕ) → tokens_of a (replicate n Free) ≡ replicate n None
tokens_of-replicate a zero = refl
tokens_of-replicate a (suc n) = ap (λ ts. None ∷ ts) (tokens_of-replicate (suc a) n)

-- where there is a page there is a token
pub token_within : (tokens : List (Option ℕ)) (ss seen : List PageState) (k : ℕ) (s : PageState)
    → tokens ≡ tokens_of 0 ss → ss ≡ seen → slice_get seen k ≡ Some s → k < length tokens
token_within tokens ss seen k s match view found =
    omega (arith, ap length match, ap length view, length-tokens_of 0 ss, slice_get_within seen k s found)

pub token_read : (tokens : List (Option ℕ)) (ss seen : List PageState) (k : ℕ) (s : PageState) (x : Option ℕ)
    → tokens ≡ tokens_of 0 ss → ss ≡ seen → slice_get seen k ≡ Some s → x ≡ get_or tokens k x → x ≡ token_of k s
token_read tokens ss seen k s x match view found read =
    let there = slice_get_read tokens _ k x refl (token_within tokens ss seen k s match view found) read in
    cc (there, slice_get-tokens_of 0 seen k k s (omega arith) found)

pub token_changed : (tokens : List (Option ℕ)) (old new : List PageState) (k : ℕ) (s : PageState) → tokens ≡ tokens_of 0 old → new ≡ slice_set old k s → slice_set tokens k (token_of k s) ≡ tokens_of 0 new
token_changed tokens old new k s match change = cc (tokens-set 0 old k k s (omega arith))

-- a page that is taken and written at its front
pub record Written (size : ℕ) (old new : List PageState) (n : ℕ) (bytes : List ℕ) : Type 0 where
  pub now : new ≡ slice_set old n (Taken (page_bytes new n))
  pub front : take (length bytes) (page_bytes new n) ≡ bytes
  pub long : length (page_bytes new n) ≡ size

-- a free page is taken, and written from its start
pub written : (size : ℕ) (old mid new : List PageState) (n : ℕ) (bytes : List ℕ) → slice_get old n ≡ Some Free → mid ≡ slice_set old n (Taken (page_bytes mid n)) → length (page_bytes mid n) ≡ size → new ≡ slice_set mid n (Taken (overwrite (page_bytes mid n) 0 bytes)) → length bytes ≤ size → Written size old new n bytes
written size old mid new n bytes free taken long write fits =
    let w : List ℕ = overwrite (page_bytes mid n) 0 bytes in
    let set : new ≡ slice_set old n (Taken w) = cc (set-set old n (Taken (page_bytes mid n)) (Taken w)) in
    let seen : slice_get new n ≡ Some (Taken w) =
    cc (slice_get-set_same old n (Taken w) (slice_get_within old n Free free)) in
    let is : page_bytes new n ≡ w = ap bytes_in seen in
    record {
      now = cc;
      front = cc (take-overwrite_front (page_bytes mid n) bytes (omega arith));
      long = cc (length-overwrite (page_bytes mid n) 0 bytes);
    }

-- if all pages are free, there is no token
pub all_none : (tokens : List (Option ℕ)) (ss : List PageState) → tokens ≡ tokens_of 0 ss → ((k : ℕ) (d : PageState) → k < length ss → get_or ss k d ≡ Free) → (k : ℕ) (d : Option ℕ) → k < length tokens → get_or tokens k d ≡ None
all_none tokens ss match all k d below =
    let within : k < length ss = omega (arith, ap length match, length-tokens_of 0 ss) in
    let free : slice_get ss k ≡ Some Free = slice_get-get_or ss k Free within ∙ ap (λ s. Some s) (all k Free within) in
    get_or_from_slice_get tokens k None d (ap (λ ts. slice_get ts k) match ∙ slice_get-tokens_of 0 ss k k Free (omega arith) free)
