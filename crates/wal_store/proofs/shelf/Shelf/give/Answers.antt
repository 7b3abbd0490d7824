use Rattle.wal_store.proofs.Common.{◌≡◌, slice_set, arith, Free}
use Rattle.wal_store.proofs.TokenLaws.{token_within, token_read, token_changed}
use Rattle.wal_store.proofs.shelf.Shelf.give.Goals as goal

pub index_mut-requires : goal.index_mut-requires
index_mut-requires c =
    omega (arith, c.self.inside.tokens.ok.0, token_within _ _ _ _ _ c.self.invariant.0 c.self.view_is c.requires)

pub give-requires : goal.give-requires
give-requires c =
    let token = token_read _ _ _ _ _ _ c.self.invariant.0 c.self.view_is c.requires c.index_mut.ensures.value in
    cc (token, c.take.ensures.value, c.in-Some.is, c.requires, c.self.view_is)

pub unreachable-requires : goal.unreachable-requires
unreachable-requires c =
    let token = token_read _ _ _ _ _ _ c.self.invariant.0 c.self.view_is c.requires c.index_mut.ensures.value in
    cc (token, c.take.ensures.value, c.in-None.is)

pub invariant_of-self : goal.invariant_of-self
invariant_of-self c =
    let token = token_read _ _ _ _ _ _ c.self.invariant.0 c.self.view_is c.requires c.index_mut.ensures.value in
    let change : c.give.new.self ≡ slice_set c.self.inside.pool c.args.number Free =
    cc (token, c.take.ensures.value, c.in-Some.is, c.give.ensures.free) in
    (cc (c.take.ensures.after, token_changed _ _ _ c.args.number Free c.self.invariant.0 change), c.give.ensures.whole)

pub returns-clause-free : goal.returns-clause-free
returns-clause-free c =
    let token = token_read _ _ _ _ _ _ c.self.invariant.0 c.self.view_is c.requires c.index_mut.ensures.value in
    cc (token, c.take.ensures.value, c.in-Some.is, c.give.ensures.free, c.self.view_is)
