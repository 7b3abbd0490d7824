use Rattle.wal_bundle.proofs.Common.{◌≡◌, ◌∙◌, sym, rules, metadata_shown}
use Rattle.wal_bundle.proofs.Truths.{one_column}
use Rattle.wal_bundle.proofs.collisions.other_column.Goals as goal

pub returns-else-ne-clause-none : goal.returns-else-ne-clause-none
returns-else-ne-clause-none g c = λ bytes column.
    let own = rw c.in-Some.is at c.in_ok-column.ensures.there in
    let same : c.as_slice.result.now ≡ c.args.own.now = search rules in
    one_column g.H.Hash32.digest c.args.id.now.0 (metadata_shown c.args.m) c.requires.shape c.args.payloads.now c.args.j bytes c.in-Some.column column own
    ∙ sym c.as_slice.ensures ∙ same

pub returns-in-None-clause-none : goal.returns-in-None-clause-none
returns-in-None-clause-none g c =
    λ bytes column. absurd ((rw c.in-None.is at c.in_ok-column.ensures.missing) bytes column)
