use Rattle.wal_words.proofs.Common.{◌≡◌, sym, ◌∙◌, arith, decimal_injective}
use Rattle.wal_words.proofs.number.read_number.Goals as goal

pub returns-else-least-number-clause-none : goal.returns-else-least-number-clause-none
returns-else-least-number-clause-none c = λ n spelled.
    let same : c.in_ok-number.number ≡ n = decimal_injective c.in_ok-number.number n (omega arith) (omega (arith, spelled.2)) (sym c.in_ok-number.ensures.found ∙ spelled.0) in
    grind (arith, c.else-least-number.either)
