use Rattle.wal_erasure.proofs.Common.{◌≡◌, ◌+◌, ◌-◌, ◌*◌, ◌<◌, slice_index, length, take, drop, refl, ap, ◌∙◌, rules, arith, times, element_at, word_at, copied_word, runs_fit}
use Rattle.wal_erasure.proofs.RunLaws.{put_more}
use Rattle.wal_erasure.proofs.runs.put_known.Goals as goal

pub loop-place-preserved : goal.loop-place-preserved
loop-place-preserved c =
    let known = c.args.known.now in
    let words = c.args.strip.words in
    let start = c.args.strip.start in
    let width = c.args.strip.width in
    let place = c.loop-place.place in
    let point = slice_index c.args.known.now c.loop-place.place in
    let at = 2 * width * slice_index c.args.known.now c.loop-place.place in
    let from = 2 * (words * place + start) in
    let factor = element_at c.args.factors.now (slice_index c.args.known.now c.loop-place.place) in
    let room = runs_fit place (length c.args.known.now) (2 * words) (omega arith) in
    let inside : slice_index c.args.known.now c.loop-place.place < length c.args.factors.now = c.requires.below c.loop-place.place 0 (omega arith) in
    let fits = runs_fit point (length c.args.factors.now) (2 * width) inside in
    let long : length c.put_product.new.target ≡ at + 2 * width - at = search rules in
    put_more words start width place at (at + 2 * width - at) known c.args.factors.now c.args.regions.now c.loop-place.runs c.put_product.new.target
    c.requires.distinct (omega arith) refl (omega arith) (omega (arith, c.loop-place.auto.runs, c.requires.runs)) long
    (λ w low.
    let there : words * place + start + w ≡ words * place + (start + w) = omega arith in
    c.put_product.ensures w (omega (arith, long))
    ∙ ap (times factor)
    (copied_word from (from + 2 * width - from) (words * place + start) c.args.regions.now (take (from + 2 * width - from) (drop from c.args.regions.now)) w refl refl (omega arith)
    ∙ ap (word_at c.args.regions.now) there))
    c.loop-place.invariant
