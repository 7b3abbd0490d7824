-- What a change of one page's state leaves of the others.
use Rattle.wal_pool.proofs.Common.{◌≡◌, ◌≢◌, ℕ, zero, suc, ◌+◌, ◌<◌, Some, List, [], ◌∷◌, length, slice_get, slice_set, slice_index_or, count_by, cond, refl, ap, arith, sum_by-cons, sum_by-set, count_by-le-length, slice_get_within, get_or_from_slice_get, PageState, Free, Taken, is_free, IsTakenPage}

pub slice_get-set_other : {X : Type 0} (xs : List X) (i k : ℕ) (x : X) → k ≢ i → slice_get (slice_set xs i x) k ≡ slice_get xs k
slice_get-set_other (y ∷ xs) zero zero x other = absurd (other refl)
slice_get-set_other (y ∷ xs) (suc i) (suc k) x other = slice_get-set_other xs i k x (λ same. other (ap suc same))
slice_get-set_other xs i k x other = refl

pub slice_get-set_same : {X : Type 0} (xs : List X) (i : ℕ) (x : X) → i < length xs → slice_get (slice_set xs i x) i ≡ Some x
slice_get-set_same [] i x within = absurd (omega arith)
slice_get-set_same (y ∷ xs) zero x within = refl
slice_get-set_same (y ∷ xs) (suc i) x within = slice_get-set_same xs i x (omega arith)

-- another page that is taken stays taken
pub taken_kept : (old new : List PageState) (n k : ℕ) (s : PageState) → new ≡ slice_set old n s → k ≢ n → IsTakenPage old k → IsTakenPage new k
taken_kept old new n k s change other taken = cc (slice_get-set_other old n k s other)

-- a free page is none that is taken
pub free_apart : (pages : List PageState) (n k : ℕ) → slice_get pages n ≡ Some Free → IsTakenPage pages k → k ≢ n
free_apart pages n k free taken same = cc

-- where as many are free as there are, each is
pub all_free : (pages : List PageState) → count_by is_free pages ≡ length pages → (k : ℕ) (d : PageState) → k < length pages → slice_index_or pages k d ≡ Free
all_free [] all k d within = absurd (omega arith)
all_free (Free ∷ pages) all zero d within = refl
all_free (Free ∷ pages) all (suc k) d within =
    let counted = sum_by-cons (λ (s : PageState). cond (is_free s) 1 0) Free pages in
    all_free pages (omega (arith, counted)) k d (omega arith)
all_free (Taken bytes ∷ pages) all k d within =
    let counted = sum_by-cons (λ (s : PageState). cond (is_free s) 1 0) (Taken bytes) pages in
    absurd (omega (arith, counted, count_by-le-length is_free pages))

-- the count of the free pages, after one is taken, given or written
count-set : (xs : List PageState) (k : ℕ) (s was : PageState) → slice_get xs k ≡ Some was
    → count_by is_free (slice_set xs k s) + cond (is_free was) 1 0 ≡ count_by is_free xs + cond (is_free s) 1 0
count-set xs k s was e =
    let change = sum_by-set (λ (x : PageState). cond (is_free x) 1 0) xs k s was (slice_get_within xs k was e) in
    omega (arith, change, ap {B = ℕ} (λ x. cond (is_free x) 1 0) (get_or_from_slice_get xs k was was e))

pub count-take : (xs : List PageState) (k : ℕ) (bytes : List ℕ) → slice_get xs k ≡ Some Free → count_by is_free (slice_set xs k (Taken bytes)) + 1 ≡ count_by is_free xs
count-take xs k bytes e = omega (arith, count-set xs k (Taken bytes) Free e)

pub count-give : (xs : List PageState) (k : ℕ) (bytes : List ℕ) → slice_get xs k ≡ Some (Taken bytes) → count_by is_free (slice_set xs k Free) ≡ count_by is_free xs + 1
count-give xs k bytes e = omega (arith, count-set xs k Free (Taken bytes) e)

pub count-write : (xs : List PageState) (k : ℕ) (bytes new : List ℕ) → slice_get xs k ≡ Some (Taken bytes) → count_by is_free (slice_set xs k (Taken new)) ≡ count_by is_free xs
count-write xs k bytes new e = omega (arith, count-set xs k (Taken new) (Taken bytes) e)
