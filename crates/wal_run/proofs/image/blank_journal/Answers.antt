use Rattle.wal_run.proofs.Common.{rules, ◌≡◌, List, ℕ, [], replicate, sym, subst, flat_bytes, Accepts}
use Rattle.wal_run.proofs.ImageLaws.{zeros_accept}
use Rattle.wal_run.proofs.image.blank_journal.Goals as goal

pub returns-in-Ok-open-clause-blank : goal.returns-in-Ok-open-clause-blank
returns-in-Ok-open-clause-blank c =
    let zeros : flat_bytes c.create-2.result ≡ replicate c.args.size 0 = search rules in
    c.in-Ok-open.ensures.gives [] (subst (λ (b : List ℕ). Accepts b []) (sym zeros) (zeros_accept c.args.size c.requires))
