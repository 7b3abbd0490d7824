use Rattle.wal_journal.proofs.Common.{refl, arith}
use Rattle.wal_journal.proofs.Records.{gate_behind, append_only, torn_only, either_way, accepts_more}
use Rattle.wal_journal.proofs.Moments.{weaker}
use Rattle.wal_journal.proofs.HeldLaws.{journal_more, fits_more}
use Rattle.wal_journal.proofs.finish.finish.Goals as goal

pub invariant_of-result-clause-stands : goal.invariant_of-result-clause-stands
invariant_of-result-clause-stands g c = journal_more c.requires.taken c.in-Ok.ensures.written

pub invariant_of-result-clause-within : goal.invariant_of-result-clause-within
invariant_of-result-clause-within g c =
    omega (arith, c.requires.room, (append_only c.args.tail _ _ _ c.requires.room c.in-Ok.ensures.written).long)

pub returns-in-Ok-clause-written : goal.returns-in-Ok-clause-written
returns-in-Ok-clause-written g c =
    let now = c.in-Ok.ensures.written in
    let only = append_only c.args.tail c.args.text.now _ _ c.requires.room now in
    record {
      kept = refl;
      tail = refl;
      only = only;
      size = only.long;
      accepts = λ changes change is. accepts_more is _ now;
      gate = λ front is. rw now (gate_behind c.args.tail c.args.text.now front _ c.requires.room is);
    }

pub returns-in-Ok-clause-any_moment : goal.returns-in-Ok-clause-any_moment
returns-in-Ok-clause-any_moment g c =
    λ told changes change is. weaker (c.append.ensures.any_moment told (c.requires.settled told)) (either_way is)

pub returns-in-Err-clause-any_moment : goal.returns-in-Err-clause-any_moment
returns-in-Err-clause-any_moment g c =
    λ told changes change is. weaker (c.append.ensures.any_moment told (c.requires.settled told)) (either_way is)

pub returns-in-Err-clause-stopped : goal.returns-in-Err-clause-stopped
returns-in-Err-clause-stopped g c = record {
  rose = c.in-Err.ensures.failed;
  only = torn_only c.args.tail c.args.text.now _ _ c.requires.room c.in-Err.ensures.torn;
  leaves = λ changes change is. either_way is _ c.in-Err.ensures.torn;
  kept = refl;
}

pub invariant_of-result-clause-fits : goal.invariant_of-result-clause-fits
invariant_of-result-clause-fits g c = fits_more _ c.requires.fits c.in-Ok.ensures.written
