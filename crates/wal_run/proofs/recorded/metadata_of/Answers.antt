use Rattle.wal_run.proofs.Common.{[], inl, refl, collision, lacking, metadata_shown}
use Rattle.wal_run.proofs.recorded.metadata_of.Goals as goal

pub returns-in-Absent-clause-refusal : goal.returns-in-Absent-clause-refusal
returns-in-Absent-clause-refusal g c = λ input is other. lacking _ (inl (c.args.payloads.now, is, c.in-Absent.ensures.found, refl))

pub returns-in-Two-clause-refusal : goal.returns-in-Two-clause-refusal
returns-in-Two-clause-refusal g c = λ input is other.
    let clash = c.collide_metadata-clash in
    collision clash.result.left clash.result.right _ clash.ensures.collision (record {
      front = [];
      clashes = inl ((c.args.payloads.now, is, metadata_shown c.in-Two.first, metadata_shown c.in-Two.second, c.in-Two.ensures.first, clash.ensures.texts), refl);
      whole = refl;
    })
