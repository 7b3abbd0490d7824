-- How a get ends.
use Rattle.std.specs.Prelude.{◌≡◌, ℕ, List, Result, MatchResult}
use Rattle.std.specs.declared.alloc.AllocError.{AllocError}
use Rattle.wal_gateway.specs.declared.answer.GetAnswer.{GetAnswer}
use Rattle.wal_gateway.specs.Getting.{AnswersGet, Cache, Get}
use Rattle.wal_gateway.specs.Gotten.{IsOnlyAnswer}

-- with its answer, which is the only one; or memory ran out, and the list is as it was
abbrev pub EndsGet : (List ℕ → List ℕ) → Cache → Get → Result GetAnswer AllocError → Cache → Type 0
EndsGet digest old get result new =
    MatchResult result (λ answer.
    AnswersGet digest old get answer new × IsOnlyAnswer digest old get answer new) (λ _. new ≡ old)
