use Rattle.wal_run.proofs.Common.{◌∙◌}
use Rattle.wal_run.proofs.Services.{committee_fits}
use Rattle.wal_run.proofs.serve.first_ledger.Goals as goal

pub unreachable-requires-in-Err-BadCommittee : goal.unreachable-requires-in-Err-BadCommittee
unreachable-requires-in-Err-BadCommittee c =
    let refused = rw c.in-Err-BadCommittee.field-0-is at c.in-Err-BadCommittee.ensures in
    committee_fits c.args.service.now.faults _ _ c.in_ok-owners.ensures (c.from_vec-faulty.ensures ∙ c.new.ensures.items) refused.1
