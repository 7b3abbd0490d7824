use Rattle.wal_pool.proofs.Common.{arith}
use Rattle.wal_pool.proofs.OverwriteLaws.{put_mid_is}
use Rattle.wal_pool.proofs.put.Goals as goal

pub returns : goal.returns
returns c = put_mid_is c.args.region.now c.args.start _ c.args.bytes.now _ c.copy_from_slice.ensures.after (omega arith) c.requires
