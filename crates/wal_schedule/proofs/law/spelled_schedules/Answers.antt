use Rattle.wal_schedule.proofs.SpelledBytes.{spelled_bytes, spelled_range}
use Rattle.wal_schedule.proofs.law.spelled_schedules.Goals as goal

pub returns : goal.returns
returns c = record {
  range = spelled_range;
  bytes = spelled_bytes;
}
