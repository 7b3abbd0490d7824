use Rattle.wal_record.proofs.Stepping.{record_start, record_step}
use Rattle.wal_record.proofs.Turning.{record_kept, context_turn}
use Rattle.wal_record.proofs.Following.{follow_all, lawful_new}
use Rattle.wal_record.proofs.Lawful.{lawful_kept}
use Rattle.wal_record.proofs.laws.steps.Goals as goal

pub returns : goal.returns
returns c = record { start = record_start; lawful = lawful_new; taken = lawful_kept; named = record_step; other = record_kept; context = context_turn; run = follow_all }
