use Rattle.wal_run.proofs.Common.{length, ap, Err, inl, inr, arith, Keeps-refl, Whole, no_memory, source_failed, too_long, IsTakenWhole, whole_command}
use Rattle.wal_run.proofs.Endings.{ends_done, ends_finished, long_input, not_too_long, taken_by}
use Rattle.wal_run.proofs.Tasks.{whole_takes}
use Rattle.wal_run.proofs.top.answer_input.Goals as goal

pub perform-requires-clause-small : goal.perform-requires-clause-small
perform-requires-clause-small g c = omega (arith, ap length c.deref.ensures.value, c.in-Ok.ensures.within, c.limit_of-limit.ensures.limit g.H.Hash32.digest)

pub returns-in-Ok-clause-ends : goal.returns-in-Ok-clause-ends
returns-in-Ok-clause-ends g c = λ words asked.
    let digest = g.H.Hash32.digest in
    let command = whole_command digest c.args.task.now in
    let bytes = c.deref.ensures.value in
    let whole : IsTakenWhole command.limit (g.S.Source.left c.args.source.now) (g.S.Source.left c.take_all.new.source) c.deref.result.now = record {
      told = rw bytes c.in-Ok.ensures.told;
      within = omega (arith, ap length bytes, c.in-Ok.ensures.within, c.limit_of-limit.ensures.limit digest);
      consumed = rw bytes c.in-Ok.ensures.whole;
      ended = c.in-Ok.ensures.ended;
    } in
    ends_done _ _ _ (Whole c.args.task.now) _ _ asked (taken_by command.grammar _ _ _ _ (whole_takes digest c.args.task.now) whole) c.perform.ensures.does

pub returns-in-Err-ReadFault-clause-ends : goal.returns-in-Err-ReadFault-clause-ends
returns-in-Err-ReadFault-clause-ends g c = λ words asked.
    let short = c.in-Err-ReadFault.ensures.short (not_too_long _ (inl c.in-Err-ReadFault.field-0-is)) in
    source_failed (Whole c.args.task.now) asked (whole_takes g.H.Hash32.digest c.args.task.now) (rw (c.limit_of-limit.ensures.limit g.H.Hash32.digest) at short)
    (c.in-Err-ReadFault.ensures.fault (ap Err c.in-Err-ReadFault.field-0-is)) (Keeps-refl _)

pub returns-in-Err-TooLong-clause-ends : goal.returns-in-Err-TooLong-clause-ends
returns-in-Err-TooLong-clause-ends g c = λ words asked.
    let task = c.args.task.now in
    let limit = c.limit_of-limit.ensures.limit g.H.Hash32.digest in
    let is = ap Err c.in-Err-TooLong.field-0-is in
    let taken = c.in-Err-TooLong.ensures.too_long is in
    let input = long_input (g.S.Source.left c.args.source.now) _ c.limit_of-limit.result taken.0 taken.2 c.in-Err-TooLong.ensures.told_long is in
    ends_finished _ _ _ _ 9 _ (λ text line. rw line (too_long (Whole task) asked
    (record { takes = whole_takes g.H.Hash32.digest task; input = input.0; told = input.1; past = omega (arith, limit, input.2); taken = taken.0; consumed = taken.1; count = omega (arith, limit, taken.2) })))
    c.finish.ensures.finishes

pub returns-in-Err-Memory-clause-ends : goal.returns-in-Err-Memory-clause-ends
returns-in-Err-Memory-clause-ends g c = λ words asked.
    let short = c.in-Err-Memory.ensures.short (not_too_long _ (inr c.in-Err-Memory.field-0-is)) in
    no_memory (Whole c.args.task.now) asked (rw (c.limit_of-limit.ensures.limit g.H.Hash32.digest) at short) (Keeps-refl _)
