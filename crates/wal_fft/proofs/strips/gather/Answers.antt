use Rattle.wal_fft.proofs.Common.{◌≡◌, ◌+◌, ◌-◌, ◌*◌, rules, arith, ◌∙◌, refl, ap, word_at}
use Rattle.wal_fft.proofs.Lanes.{copied_word}
use Rattle.wal_fft.proofs.StripLaws.{gathered_more, runs_fit}
use Rattle.wal_fft.proofs.strips.gather.Goals as goal

pub loop-place-preserved : goal.loop-place-preserved
loop-place-preserved c =
    let place = c.loop-place.place in
    let width = c.args.strip.width in
    let room = runs_fit place c.args.known (2 * width) (omega arith) in
    let from = 2 * (c.args.strip.words * place + c.args.strip.start) in
    gathered_more c.args.strip.words c.args.strip.start width place (2 * width * place) (2 * width * place + 2 * width - 2 * width * place)
    c.args.regions.now c.loop-place.runs c.copy_from_slice.new.self
    (search rules) (omega arith) (omega arith) (search rules)
    (λ w low.
    let there : c.args.strip.words * place + c.args.strip.start + w ≡ c.args.strip.words * place + (c.args.strip.start + w) = omega arith in
    copied_word from (from + 2 * width - from) (c.args.strip.words * place + c.args.strip.start) c.args.regions.now c.copy_from_slice.new.self w refl
    c.copy_from_slice.ensures.after (omega arith)
    ∙ ap (word_at c.args.regions.now) there)
    c.loop-place.invariant
