use Rattle.wal_world.proofs.Common.{◌≡◌, ℕ, List, Option, None, IfSome, IfNone, sym, ap, ◌∙◌, subst, BlobMetadata, held_index, IsOwnMetadata, side_of, held, world_of, SymbolReply, silent}
use Rattle.wal_world.proofs.Symbols.{symbol_replies}
use Rattle.wal_world.proofs.network.Network.symbols_for.Goals as goal

pub returns-in-Ok-Some-clause-payloads : goal.returns-in-Ok-Some-clause-payloads
returns-in-Ok-Some-clause-payloads g c =
    let w = world_of c.args.self.now in
    let parts = held (side_of c.args.side w) c.args.helper c.args.id.now in
    let own : IsOwnMetadata g.H.Hash32.digest w.log.f c.args.id.now.0 parts c.in-Ok-Some.m
    = subst (λ (o : Option BlobMetadata). IfSome o (λ m. IsOwnMetadata g.H.Hash32.digest w.log.f c.args.id.now.0 parts m)) c.in-Ok-Some.field-0-is c.in-Ok-Some.ensures.held in
    symbol_replies g.H.Hash32.digest c.args.id.now c.args.helper parts c.args.axis c.args.shard c.in-Ok-Some.m c.held.result
    c.true_symbols.result own.held (c.held.ensures.value ∙ ap (λ (m : BlobMetadata). held_index m.format m.f c.args.axis c.args.shard) c.view.ensures.value) c.true_symbols.ensures.payloads

pub returns-in-Ok-None-clause-payloads : goal.returns-in-Ok-None-clause-payloads
returns-in-Ok-None-clause-payloads g c =
    let parts = held (side_of c.args.side (world_of c.args.self.now)) c.args.helper c.args.id.now in
    let none : parts.metadata ≡ None = subst (λ (o : Option BlobMetadata). IfNone o (parts.metadata ≡ None)) c.in-Ok-None.field-0-is c.in-Ok-None.ensures.none in
    subst (λ (l : List (List ℕ)). SymbolReply g.H.Hash32.digest c.args.id.now c.args.helper parts c.args.axis c.args.shard l) (sym c.no_payloads.ensures) (silent none)
