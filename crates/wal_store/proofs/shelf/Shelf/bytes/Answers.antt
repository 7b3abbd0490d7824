use Rattle.wal_store.proofs.Common.{arith}
use Rattle.wal_store.proofs.TokenLaws.{token_within, token_read}
use Rattle.wal_store.proofs.shelf.Shelf.bytes.Goals as goal

pub index-requires : goal.index-requires
index-requires c =
    omega (arith, c.self.inside.tokens.ok.0, token_within _ _ _ _ _ c.self.invariant.0 c.self.view_is c.requires)

pub bytes-requires : goal.bytes-requires
bytes-requires c =
    let token = token_read _ _ _ _ _ _ c.self.invariant.0 c.self.view_is c.requires c.index.ensures in
    cc (token, c.in-Some.is, c.requires, c.self.view_is)

pub unreachable-requires : goal.unreachable-requires
unreachable-requires c =
    cc (token_read _ _ _ _ _ _ c.self.invariant.0 c.self.view_is c.requires c.index.ensures, c.in-None.is)

pub returns-clause-held : goal.returns-clause-held
returns-clause-held c =
    let token = token_read _ _ _ _ _ _ c.self.invariant.0 c.self.view_is c.requires c.index.ensures in
    cc (token, c.in-Some.is, c.bytes.ensures.held, c.self.view_is)
