use Rattle.std.specs.Prelude.{◌≡◌, ℕ, zero, suc, ◌+◌, List, [], ◌∷◌, ◌++◌, Option, Some, None}
use Rattle.std.specs.Prelude.{slice_get, slice_index, nat_eq, if◌then◌else◌}
use Rattle.wal_pool.specs.Pages.{PageState, Free, Taken, page_bytes}

-- the states of the pages, and the successor of each page
pub record Linked : Type 0 where
  pub states : List PageState
  pub next : List ℕ

-- `count` pages, from a first one on
abbrev pub links : List ℕ → ℕ → ℕ → List ℕ
links next zero first = []
links next (suc count) first = first ∷ links next count (slice_index next first)

-- the bytes of these pages, one after the other
abbrev pub joined : List PageState → List ℕ → List ℕ
joined states [] = []
joined states (k ∷ ks) = page_bytes states k ++ joined states ks

-- how often a page is in a list
abbrev pub uses : ℕ → List ℕ → ℕ
uses k [] = 0
uses k (x ∷ xs) = (if nat_eq k x then 1 else 0) + uses k xs

abbrev pub taken_in : Option PageState → ℕ
taken_in None = 0
taken_in (Some Free) = 0
taken_in (Some (Taken bytes)) = 1

-- 1 for a page that is taken, and 0 for another
abbrev pub taken_at : List PageState → ℕ → ℕ
taken_at states k = taken_in (slice_get states k)

-- these pages, which were free, are taken, and nothing else changes
pub record Adds (old new : Linked) (ks : List ℕ) : Type 0 where
  pub counts : (k : ℕ) → taken_at new.states k ≡ taken_at old.states k + uses k ks
  pub states : (k : ℕ) → uses k ks ≡ 0 → slice_get new.states k ≡ slice_get old.states k
  pub next : (k : ℕ) → uses k ks ≡ 0 → slice_index new.next k ≡ slice_index old.next k

-- these pages, which were taken, are free, and nothing else changes
pub record Frees (old new : Linked) (ks : List ℕ) : Type 0 where
  pub counts : (k : ℕ) → taken_at new.states k + uses k ks ≡ taken_at old.states k
  pub states : (k : ℕ) → uses k ks ≡ 0 → slice_get new.states k ≡ slice_get old.states k
  pub next : new.next ≡ old.next
