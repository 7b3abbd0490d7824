use Rattle.std.specs.Prelude.{◌≡◌, ℕ, zero, suc, Bool, true, false, List, [], ◌∷◌, Option, Some}
use Rattle.std.specs.Prelude.{None, length, slice_get}

-- a page is free, or taken with its bytes
pub data PageState : Type 0 where
  Free : PageState
  Taken : List ℕ → PageState

-- the test for a free page
abbrev pub is_free : PageState → Bool
is_free Free = true
is_free (Taken bytes) = false

-- the bytes of a page that is taken
abbrev pub bytes_in : Option PageState → List ℕ
bytes_in None = []
bytes_in (Some Free) = []
bytes_in (Some (Taken bytes)) = bytes

-- the bytes of the page with this number
abbrev pub page_bytes : List PageState → ℕ → List ℕ
page_bytes pages number = bytes_in (slice_get pages number)

-- the page with this number is there, and taken
abbrev pub IsTakenPage : List PageState → ℕ → Type 0
IsTakenPage pages number = slice_get pages number ≡ Some (Taken (page_bytes pages number))

-- each page that is taken has `size` bytes
abbrev pub AreWhole : ℕ → List PageState → Type 0
AreWhole size pages = (k : ℕ) → IsTakenPage pages k → length (page_bytes pages k) ≡ size

-- the list, with these bytes in place of its own from a place on, and cut at its end
abbrev pub overwrite : List ℕ → ℕ → List ℕ → List ℕ
overwrite [] at bytes = []
overwrite (x ∷ xs) zero [] = x ∷ xs
overwrite (x ∷ xs) zero (byte ∷ bytes) = byte ∷ overwrite xs zero bytes
overwrite (x ∷ xs) (suc at) bytes = x ∷ overwrite xs at bytes
