use Rattle.wal_erasure.proofs.Common.{◌≡◌, ◌+◌, ◌-◌, ◌*◌, length, take, drop, refl, ap, ◌∙◌, rules, arith, times, element_at, copied_word, runs_fit}
use Rattle.wal_erasure.proofs.RunLaws.{taken_more}
use Rattle.wal_erasure.proofs.runs.take_wanted.Goals as goal

pub loop-place-preserved : goal.loop-place-preserved
loop-place-preserved c =
    let words = c.args.strip.words in
    let start = c.args.strip.start in
    let width = c.args.strip.width in
    let place = c.loop-place.place in
    let at = 2 * (words * place + start) in
    let from = 2 * width * place in
    let factor = element_at c.args.factors.now c.loop-place.place in
    let room = runs_fit place c.args.wanted (2 * words) (omega arith) in
    let fits = runs_fit place c.args.wanted (2 * width) (omega arith) in
    let long : length c.put_product.new.target ≡ at + 2 * width - at = search rules in
    taken_more words start width place at (at + 2 * width - at) c.args.factors.now c.args.runs.now c.args.regions.now c.loop-place.regions c.put_product.new.target
    refl (omega arith) (omega (arith, c.loop-place.auto.regions, c.requires.regions)) long c.requires.within
    (λ w low.
    c.put_product.ensures w (omega (arith, long))
    ∙ ap (times factor)
    (copied_word from (from + 2 * width - from) (width * place) c.args.runs.now (take (from + 2 * width - from) (drop from c.args.runs.now)) w (omega arith) refl (omega arith)))
    c.loop-place.invariant
