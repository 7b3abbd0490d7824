use Rattle.wal_challenge.proofs.Common.{◌∙◌, metadata_shown, Accepted}
use Rattle.wal_challenge.proofs.VerdictLaws.{accepted_as, one_verdict, own_or_false}
use Rattle.wal_challenge.proofs.checking.check_answer.Goals as goal

pub returns-in-None-clause-verdict : goal.returns-in-None-clause-verdict
returns-in-None-clause-verdict g c =
    accepted_as g.H.Hash32.digest (metadata_shown c.args.m) c.args.beacon.now c.args.shard c.args.count c.as_slice-claims.result.now c.args.claims.now c.as_slice-claims.ensures
    (c.if-claims-from.false ∙ c.from.ensures) c.in-None.ensures.none

pub returns-in-None-clause-only : goal.returns-in-None-clause-only
returns-in-None-clause-only g c = λ other come.
    one_verdict g.H.Hash32.digest (metadata_shown c.args.m) c.args.beacon.now c.args.shard c.args.count c.args.claims.now other Accepted come (returns-in-None-clause-verdict g c)

pub returns-in-None-clause-own : goal.returns-in-None-clause-own
returns-in-None-clause-own g c = λ _ blob matrix commits.
    let come = returns-in-None-clause-verdict g c in
    own_or_false g.H.Hash32.digest (metadata_shown c.args.m) c.args.beacon.now c.args.shard c.args.count c.args.claims.now blob matrix come.0 come.1 commits
