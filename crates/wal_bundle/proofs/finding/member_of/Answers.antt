use Rattle.wal_bundle.proofs.Common.{metadata_shown, weaken}
use Rattle.wal_bundle.proofs.Truths.{of_columns}
use Rattle.wal_bundle.proofs.finding.member_of.Goals as goal

pub returns-in-Missing : goal.returns-in-Missing
returns-in-Missing g c = (metadata_shown c.args.m, c.requires, (rw c.in-Missing.is at c.in_ok-j.ensures.told) c.args.k)

pub returns-in-Bad : goal.returns-in-Bad
returns-in-Bad g c = (metadata_shown c.args.m, c.requires, rw c.in-Bad.is at c.in_ok-j.ensures.told)

pub returns : goal.returns
returns g c =
    weaken _ _ c.member_by.result (λ answer told. of_columns _ _ _ _ _ answer c.requires told) c.member_by.ensures
