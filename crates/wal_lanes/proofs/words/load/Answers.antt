use Rattle.wal_lanes.proofs.Common.{ℕ, ap, ◌∙◌, arith, word_at}
use Rattle.wal_lanes.proofs.LaneLemmas.{HasLanes-listed}
use Rattle.wal_lanes.proofs.words.load.Goals as goal

pub returns : goal.returns
returns c =
    let read = λ (n : ℕ). word_at c.args.bytes.now n in
    HasLanes-listed (c.word_at.ensures ∙ ap read (omega arith)) (c.word_at-2.ensures ∙ ap read (omega arith)) (c.word_at-3.ensures ∙ ap read (omega arith)) (c.word_at-4.ensures ∙ ap read (omega arith))
    (c.word_at-5.ensures ∙ ap read (omega arith)) (c.word_at-6.ensures ∙ ap read (omega arith)) (c.word_at-7.ensures ∙ ap read (omega arith)) (c.word_at-8.ensures ∙ ap read (omega arith))
