-- A list as its regions of one size.
use Rattle.wal_kernel.proofs.Common.{◌≡◌, ℕ, ◌+◌, ◌*◌, ◌<◌, ◌≤◌, List, ◌++◌, length, take, drop, slice_index, ap, ◌∙◌, arith, length-drop, get_or-drop, get_or-take, drop-drop, drop-append-le, take-append-le, region}

-- byte k of region i
pub region-byte : (size : ℕ) (xs : List ℕ) (i k : ℕ) → k < size → slice_index (region size xs i) k ≡ slice_index xs (size * i + k)
region-byte size xs i k l = get_or-take size (drop (size * i) xs) k 0 l ∙ get_or-drop (size * i) xs k 0

-- the regions of the bytes from a region on
pub region-drop : (size a : ℕ) (xs : List ℕ) (i : ℕ) → region size (drop (size * a) xs) i ≡ region size xs (a + i)
region-drop size a xs i =
    let at : size * a + size * i ≡ size * (a + i) = omega arith in
    ap (take size) (drop-drop (size * i) (size * a) xs ∙ ap (λ n. drop n xs) at)

-- the regions of two lists, one after the other
pub region-append_left : (size : ℕ) (xs ys : List ℕ) (i : ℕ) → size * i + size ≤ length xs → region size (xs ++ ys) i ≡ region size xs i
region-append_left size xs ys i room =
    ap (take size) (drop-append-le (size * i) xs ys (omega arith)) ∙ take-append-le size (drop (size * i) xs) ys (simp length-drop (omega arith))
