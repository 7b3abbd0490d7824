use Rattle.std.specs.Prelude.{ℕ, zero, suc, ◌*◌, Bool, true, ◌&&◌, not, List, [], ◌∷◌, map, take}
use Rattle.std.specs.Prelude.{drop, nat_eq, nat_lt, if◌then◌else◌}
use Rattle.std.specs.List.{list_any, range_with_len}
use Rattle.std.specs.Int.{w32, from_be_bytes}
use Rattle.wal_pool.specs.Pages.{PageState, Free, Taken}

-- the bytes of a page in the region, for pages of this size
unfoldable pub page_of : ℕ → List ℕ → ℕ → List ℕ
page_of size region number = take size (drop (size * number) region)

-- a free page begins with the number of the next free one
unfoldable pub next : ℕ → List ℕ → ℕ → ℕ
next size region number = from_be_bytes w32 (take 4 (page_of size region number))

-- `count` free pages, from the first on
abbrev pub chain : ℕ → List ℕ → ℕ → ℕ → List ℕ
chain size region zero first = []
chain size region (suc count) first = first ∷ chain size region count (next size region first)

-- whether the number is in the list
abbrev pub has : ℕ → List ℕ → Bool
has number numbers = list_any (nat_eq number) numbers

-- whether the numbers are those of pages, and all differ
abbrev pub is_free_list : ℕ → List ℕ → Bool
is_free_list pages [] = true
is_free_list pages (k ∷ ks) = nat_lt k pages && not (has k ks) && is_free_list pages ks

-- the state of a page, if these pages are free
abbrev pub state_of : ℕ → List ℕ → List ℕ → ℕ → PageState
state_of size region free number =
    if has number free then Free else Taken (page_of size region number)

-- the states of the pages, if these are free
unfoldable pub states : ℕ → ℕ → List ℕ → List ℕ → List PageState
states size pages region free = map (state_of size region free) (range_with_len 0 pages)
