use Rattle.wal_words.proofs.Common.{◌≡◌, decimal, sym, ◌∙◌, ap, arith, parse-decimal}
use Rattle.std.proofs.lemmas.Slice.Eq.{bytes_eq-Decides}
use Rattle.wal_words.proofs.number.any_number.Goals as goal

pub returns-in_default-clause-none : goal.returns-in_default-clause-none
returns-in_default-clause-none c = λ n fits spelled.
    let read = parse-decimal 64 n c.args.word.now c.parse.result fits (omega arith) spelled c.parse.ensures.value.0 in
    c.in_default.not-Ok n read

pub returns-else-eq-clause-none : goal.returns-else-eq-clause-none
returns-else-eq-clause-none c = λ n fits spelled.
    let read = parse-decimal 64 n c.args.word.now c.parse.result fits (omega arith) spelled c.parse.ensures.value.0 in
    let same : c.in-Ok.number ≡ n = cc in
    let text : c.format.result.now ≡ c.args.word.now = c.format.ensures.text ∙ ap decimal same ∙ sym spelled in
    let told = (bytes_eq-Decides c.format.result.now c.args.word.now).1 text in
    grind (arith, told)
