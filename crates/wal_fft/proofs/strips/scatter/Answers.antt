use Rattle.wal_fft.proofs.Common.{◌+◌, ◌-◌, ◌*◌, rules, arith}
use Rattle.wal_fft.proofs.Lanes.{copied_word}
use Rattle.wal_fft.proofs.StripLaws.{scattered_more, runs_fit}
use Rattle.wal_fft.proofs.strips.scatter.Goals as goal

pub loop-place-preserved : goal.loop-place-preserved
loop-place-preserved c =
    let place = c.loop-place.place in
    let width = c.args.strip.width in
    let at = 2 * (c.args.strip.words * place + c.args.strip.start) in
    let room = runs_fit place c.args.total (2 * c.args.strip.words) (omega arith) in
    let from = 2 * width * place in
    scattered_more c.args.strip.words c.args.strip.start width c.args.known place at (at + 2 * width - at)
    c.args.runs.now c.args.regions.now c.loop-place.regions c.copy_from_slice.new.self
    (search rules) (omega arith) (omega arith) (search rules) c.requires.within (omega arith)
    (λ w low.
    copied_word from (from + 2 * width - from) (width * place) c.args.runs.now c.copy_from_slice.new.self w (omega arith)
    c.copy_from_slice.ensures.after (omega arith))
    c.loop-place.invariant
