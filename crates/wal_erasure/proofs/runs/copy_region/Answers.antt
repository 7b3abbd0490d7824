use Rattle.wal_erasure.proofs.Common.{◌+◌, ◌-◌, ◌*◌, rules, arith, copied_word}
use Rattle.wal_erasure.proofs.RunLaws.{copy_one}
use Rattle.wal_erasure.proofs.runs.copy_region.Goals as goal

pub returns : goal.returns
returns c =
    let words = c.args.words in
    let at = 2 * words * c.args.to in
    let from = 2 * words * c.args.from in
    copy_one words c.args.from c.args.to at (at + 2 * words - at) c.args.sources.now c.args.targets.now c.copy_from_slice.new.self
    (omega arith) (omega arith) (search rules) (search rules)
    (λ w low. copied_word from (from + 2 * words - from) (words * c.args.from) c.args.sources.now c.copy_from_slice.new.self w (omega arith) c.copy_from_slice.ensures.after (omega arith))
