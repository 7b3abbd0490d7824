use Rattle.wal_run.proofs.Common.{◌≡◌, ap, refl, ShardState, state_of, at_start}
use Rattle.wal_run.proofs.Services.{starts_owned, ends_serving}
use Rattle.wal_run.proofs.serve.serve_pool.Goals as goal

pub serve-end-requires-clause-owners : goal.serve-end-requires-clause-owners
serve-end-requires-clause-owners g c =
    starts_owned c.args.service.now c.args.opened.state.ledger _ c.requires.ledger (ap (λ (s : ShardState). s.f) c.create-shard.ensures)

pub returns-clause-ended : goal.returns-clause-ended
returns-clause-ended g c =
    let shard : c.create-shard.result ≡ (at_start c.args.service.now).shard = rw (c.create-shard.ensures, c.requires.keep) refl in
    let fresh : state_of c.create-shard.result c.args.opened.state ≡ at_start c.args.service.now = rw (shard, c.requires.ledger) refl in
    ends_serving g.H.Hash32.digest c.args.service.now c.create-shard.result _ _ _ _ _ _ _ _ c.serve-end.result _ c.requires.range shard
    fresh c.serve-end.ensures.served c.status_of.ensures
