use Rattle.wal_store.proofs.Common.{◌≡◌, arith}
use Rattle.wal_store.proofs.TokenLaws.{tokens_of-replicate}
use Rattle.wal_store.proofs.shelf.no_tokens.Goals as goal

pub returns : goal.returns
returns c =
    let all : c.loop.counter ≡ c.args.pages = omega arith in
    cc (c.loop.invariant.0, all, tokens_of-replicate 0 c.args.pages)
