use Rattle.wal_record.specs.Told.{record_told}
use Rattle.wal_follow.proofs.Entries.{map_set}
use Rattle.wal_follow.proofs.entering.put_blob.Goals as goal

pub returns-clause-told : goal.returns-clause-told
returns-clause-told c = map_set record_told c.args.rows.now c.args.place c.args.row
