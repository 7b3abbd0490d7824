use Rattle.wal_bundle.proofs.Common.{metadata_shown}
use Rattle.wal_bundle.proofs.Truths.{not_recovered, weaken_none}
use Rattle.wal_bundle.proofs.columns.recovered_in.Goals as goal

pub returns-clause-missing : goal.returns-clause-missing
returns-clause-missing g c =
    weaken_none _ _ c.sliver_of.result
    (λ refused. not_recovered _ _ (metadata_shown c.args.m) _ c.args.j _ _ c.requires.none c.in_ok-openings.ensures
    c.in_ok-recovery.ensures.only refused)
    c.sliver_of.ensures.none
