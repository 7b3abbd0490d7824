use Rattle.wal_bundle.proofs.Common.{weaken}
use Rattle.wal_bundle.proofs.Truths.{one_answer, same_or_contrary, true_or_contrary}
use Rattle.wal_bundle.proofs.finding.member.Goals as goal

pub returns-clause-only : goal.returns-clause-only
returns-clause-only g c =
    weaken _ _ c.find.result (λ a told other also. one_answer _ _ _ _ other a also told) c.find.ensures

pub returns-clause-bundle : goal.returns-clause-bundle
returns-clause-bundle g c = weaken _ _ c.find.result (λ a told. true_or_contrary _ _ _ _ a told) c.find.ensures

pub returns-clause-one : goal.returns-clause-one
returns-clause-one g c = weaken _ _ c.find.result (λ a told. same_or_contrary _ _ _ _ a told) c.find.ensures
