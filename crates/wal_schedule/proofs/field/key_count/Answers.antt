use Rattle.wal_schedule.proofs.Common.{sym, ◌∙◌, members_len-members_view}
use Rattle.wal_schedule.proofs.field.key_count.Goals as goal

pub returns-in-Some : goal.returns-in-Some
returns-in-Some c =
    rw (sym c.in-Some.ensures) (c.len.ensures.len ∙ sym (members_len-members_view c.in-Some.map.now.entries))
