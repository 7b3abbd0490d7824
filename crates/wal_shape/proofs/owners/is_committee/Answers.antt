use Rattle.wal_shape.proofs.Common.{◌≡◌, ℕ, List, true, nat_eq, nat_lt, length, sym, ◌∙◌, subst, list_all, and_parts}
use Rattle.wal_shape.proofs.OwnersLaws.{nodes_below}
use Rattle.wal_shape.proofs.owners.is_committee.Goals as goal

pub is_closed-requires-clause-owners : goal.is_closed-requires-clause-owners
is_closed-requires-clause-owners c =
    let seen = c.as_slice.result.now in
    let fits = and_parts (nat_eq (length seen) c.args.n) (list_all (λ node. nat_lt node c.args.n) seen) (sym c.are_owners.ensures ∙ c.if-not-are_owners.false) in
    subst (λ (xs : List ℕ). list_all (λ node. nat_lt node 1000) xs ≡ true) (c.as_slice.ensures ∙ sym c.as_slice-then-is_ascending.ensures)
    (nodes_below seen c.args.n 1000 c.requires fits.1)
