use Rattle.wal_recover.proofs.Common.{rules, ◌≡◌, ℕ, List, subst, Opening, sliver_symbols, metadata_shown, OpeningsComeTo, Takes}
use Rattle.wal_recover.proofs.OneRecovery.{committed, list_held, one_recovery, own_or_false}
use Rattle.wal_recover.proofs.recovery.recover.Goals as goal

pub settle-requires-clause-taken : goal.settle-requires-clause-taken
settle-requires-clause-taken g c =
    let most : c.symbol_count-most.result ≡ sliver_symbols c.args.axis (metadata_shown c.args.m).f =
    rw c.shape.ensures.value at c.symbol_count-most.ensures.value in
    let T : List Opening → ℕ → Type 0 =
    λ os k. Takes g.H.Hash32.digest (metadata_shown c.args.m) c.args.axis c.args.index os k c.in_ok-taken.taken.items in
    list_held g.H.Hash32.digest (metadata_shown c.args.m) c.args.axis c.args.index c.args.openings.now c.in_ok-taken.taken.items
    (subst (T c.args.openings.now) most (subst (λ os. T os c.symbol_count-most.result) c.as_slice.ensures c.in_ok-taken.ensures))

pub returns-clause-only : goal.returns-clause-only
returns-clause-only g c = λ other is.
    let here : OpeningsComeTo g.H.Hash32.digest (metadata_shown c.args.m) c.args.axis c.args.index c.args.openings.now
    c.in_ok-outcome.outcome = search rules in
    one_recovery _ _ _ _ _ c.shape.ensures.metadata.shape other _ is here

pub returns-clause-committed : goal.returns-clause-committed
returns-clause-committed g c =
    let here : OpeningsComeTo g.H.Hash32.digest (metadata_shown c.args.m) c.args.axis c.args.index c.args.openings.now
    c.in_ok-outcome.outcome = search rules in
    committed g.H.Hash32.digest (metadata_shown c.args.m) c.args.axis c.args.index here.taken c.in_ok-outcome.outcome here.comes

pub returns-clause-own : goal.returns-clause-own
returns-clause-own g c = λ blob matrix is.
    let digest = g.H.Hash32.digest in
    let m = metadata_shown c.args.m in
    let axis = c.args.axis in
    let openings = c.args.openings.now in
    let shape = c.shape.ensures.metadata.shape in
    let here : OpeningsComeTo digest m axis c.args.index openings c.in_ok-outcome.outcome = search rules in
    own_or_false digest m axis c.args.index blob matrix shape is here.taken c.in_ok-outcome.outcome here.comes
    (committed digest m axis c.args.index here.taken c.in_ok-outcome.outcome here.comes)
