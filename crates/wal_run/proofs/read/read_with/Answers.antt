use Rattle.wal_run.proofs.Common.{⊤, Keeps-refl, Read, no_memory, source_failed, too_long}
use Rattle.wal_run.proofs.Endings.{ends_finished, ends_performed, long_input}
use Rattle.wal_run.proofs.PieceLaws.{tells_all, tells_more}
use Rattle.wal_run.proofs.Says.{performs_said}
use Rattle.wal_run.proofs.read.read_with.Goals as goal

pub returns-in-Ok-clause-ends : goal.returns-in-Ok-clause-ends
returns-in-Ok-clause-ends g c = λ id stands words asked.
    let t = c.in-Ok.ensures.takes id.0 stands in
    ends_performed _ _ _ (Read id) _ t.0 asked (record { told = tells_all _ _ t.0 t.1 t.2; within = t.3; consumed = t.1; ended = t.2 })
    (performs_said _ _ (c.stream_answer.ensures id t.0 (c.finish_stream-answer.ensures.finishes id.0 t.0 t.4)) c.write_answer.ensures.performs)

pub returns-in-Err-ReadFault-clause-ends : goal.returns-in-Err-ReadFault-clause-ends
returns-in-Err-ReadFault-clause-ends g c = λ id stands words asked.
    let t = rw c.in-Err-ReadFault.field-0-is at (c.in-Err-ReadFault.ensures.takes id.0 stands) in
    source_failed (Read id) asked tt t.0 t.1 (Keeps-refl _)

pub returns-in-Err-TooLong-clause-ends : goal.returns-in-Err-TooLong-clause-ends
returns-in-Err-TooLong-clause-ends g c = λ id stands words asked.
    let taken = rw c.in-Err-TooLong.field-0-is at (c.in-Err-TooLong.ensures.takes id.0 stands) in
    let input = long_input (g.S.Source.left c.args.source.now) ⊤ 134217728 taken.0 taken.2 (tells_more _ _ taken.0 134217728 taken.1 taken.2) tt in
    ends_finished _ _ _ _ 9 _ (λ text is. rw is (too_long (Read id) asked
    (record { takes = tt; input = input.0; told = input.1; past = input.2; taken = taken.0; consumed = taken.1; count = taken.2 }))) c.finish.ensures.finishes

pub returns-clause-ends : goal.returns-clause-ends
returns-clause-ends g c = λ id stands words asked.
    no_memory (Read id) asked (rw c.in-Err-Memory.field-0-is at (c.in-Err-Memory.ensures.takes id.0 stands))
    (Keeps-refl _)
