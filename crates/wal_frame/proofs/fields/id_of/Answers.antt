use Rattle.wal_frame.proofs.Common.{run_size}
use Rattle.wal_frame.proofs.fields.id_of.Goals as goal

pub id_from-requires : goal.id_from-requires
id_from-requires c = run_size 32 c.args.bytes.now (c.in_ok-id.id.now, c.in_ok-id.rest.now) c.in_ok-id.ensures
