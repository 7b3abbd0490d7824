use Rattle.wal_bundle.proofs.Common.{◌∙◌, sym, metadata_shown}
use Rattle.wal_bundle.proofs.Truths.{one_column}
use Rattle.wal_bundle.proofs.collisions.columns_apart.Goals as goal

pub returns-in_default-clause-none : goal.returns-in_default-clause-none
returns-in_default-clause-none g c =
    λ x y is_x is_y. absurd ((rw c.in_default.is at c.in_ok-left.ensures.missing) x is_x)

pub returns-in-None-clause-none : goal.returns-in-None-clause-none
returns-in-None-clause-none g c = λ x y is_x is_y.
    let own = rw c.in-Some.is at c.in_ok-left.ensures.there in
    let other = rw c.in-None.is at c.in_ok-right.ensures.none in
    one_column g.H.Hash32.digest c.args.id.now.0 (metadata_shown c.args.m) c.requires.shape c.args.a.now c.args.j x c.in-Some.left is_x own
    ∙ sym (other y is_y ∙ c.as_slice.ensures)
