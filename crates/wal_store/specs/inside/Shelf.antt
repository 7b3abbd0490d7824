use Rattle.std.specs.Prelude.{ℕ, suc, List, [], ◌∷◌, Option, Some, None}
use Rattle.wal_pool.specs.Pages.{PageState, Free, Taken}

-- the right to a page is kept exactly if the page is taken, and has its number
abbrev pub token_of : ℕ → PageState → Option ℕ
token_of number Free = None
token_of number (Taken bytes) = Some number

-- the rights to the pages from a number on
abbrev pub tokens_of : ℕ → List PageState → List (Option ℕ)
tokens_of number [] = []
tokens_of number (page ∷ states) = token_of number page ∷ tokens_of (suc number) states
