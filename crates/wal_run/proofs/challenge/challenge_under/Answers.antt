use Rattle.wal_run.proofs.Common.{metadata_shown, recorded, performed}
use Rattle.wal_run.proofs.Challenges.{answered_as}
use Rattle.wal_run.proofs.Says.{performs_refused}
use Rattle.wal_run.proofs.challenge.challenge_under.Goals as goal

pub put_answers-requires : goal.put_answers-requires
put_answers-requires g c =
    let ready = c.in-Ok.ensures.ready in record {
      shard = ready.shard;
      words = (ready.primary, ready.secondary, record { primary_held = ready.primary_own.4.1; secondary_held = ready.secondary_own.4.1 }, ready.words_of);
      room = ready.room;
    }

pub returns-in-Ok-clause-does : goal.returns-in-Ok-clause-does
returns-in-Ok-clause-does g c =
    let ready = c.in-Ok.ensures.ready in
    let r = recorded c.args.payloads.now (metadata_shown c.args.m) in
    answered_as g.H.Hash32.digest c.args.audit.now r ready.primary ready.secondary _ _ _ _ ready.shard ready.primary_own ready.secondary_own
    (c.put_answers.ensures.does ready.primary ready.secondary ready.words_of)

pub returns-in-Err-clause-does : goal.returns-in-Err-clause-does
returns-in-Err-clause-does g c = performed _ (performs_refused _ _ c.in-Err.ensures.refusal c.refuse.ensures.performs)
