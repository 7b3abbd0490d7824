use Rattle.wal_schedule.proofs.Common.{Result, Err, sym, ap, ◌∙◌, subst, Schedule, ScheduleError, schedule_with, Tells}
use Rattle.wal_schedule.proofs.Drawing.{too_many, of_parts, tells_error, in_range}
use Rattle.wal_schedule.proofs.read.schedule_in.Goals as goal

pub returns-then-items-gt-MOST_EVENTS-clause-read : goal.returns-then-items-gt-MOST_EVENTS-clause-read
returns-then-items-gt-MOST_EVENTS-clause-read c = too_many _ _ _ c.in-Ok.ensures.read c.if-items-gt-MOST_EVENTS.true

pub returns-in-Err-clause-read : goal.returns-in-Err-clause-read
returns-in-Err-clause-read c =
    subst (λ (told : Result Schedule ScheduleError). Tells (Err c.in-Err.error) told)
    (sym (of_parts _ _ _ c.in-Ok.ensures.read c.if-items-gt-MOST_EVENTS.false))
    (tells_error c.in-Err.error c.in-Ok.parts.0 _ c.in-Err.ensures.read)

pub returns-clause-read : goal.returns-clause-read
returns-clause-read c =
    of_parts _ _ _ c.in-Ok.ensures.read c.if-items-gt-MOST_EVENTS.false ∙ ap (schedule_with c.in-Ok.parts.0) c.in-Ok-events_in.ensures.read

pub returns-clause-range : goal.returns-clause-range
returns-clause-range c =
    in_range c.in-Ok.parts.0 c.in-Ok-events_in.events c.in-Ok.ensures.range c.in-Ok-events_in.ensures.count c.in-Ok-events_in.ensures.range
