use Rattle.wal_schedule.proofs.WrittenText.{read_again, text_is}
use Rattle.wal_schedule.proofs.write.write_schedule.Goals as goal

pub returns-clause-read : goal.returns-clause-read
returns-clause-read c =
    read_again c.to_string.result _ c.args.schedule.now c.in_ok-schedule_value.ensures.value c.requires c.in_ok-schedule_value.ensures.bytes c.to_string.ensures.reads_back

pub returns-clause-text : goal.returns-clause-text
returns-clause-text c = text_is c.to_string.result _ c.args.schedule.now c.in_ok-schedule_value.ensures.value c.to_string.ensures.text
