use Rattle.wal_frame.proofs.Common.{List, ℕ, ◌++◌, sym, ap, ◌∙◌, sliver_front}
use Rattle.wal_frame.proofs.writing.sliver_head.Goals as goal

pub returns-clause-joins : goal.returns-clause-joins
returns-clause-joins c = λ bytes len.
    ap (λ (head : List ℕ). head ++ bytes) c.sliver_fields.ensures
    ∙ ap (λ (k : ℕ). sliver_front c.args.id.now.0 c.args.axis c.args.index k ++ bytes) (sym len)
