use Rattle.wal_store.proofs.Common.{◌*◌, arith}
use Rattle.wal_store.proofs.ChainLaws.{chunk_is}
use Rattle.wal_store.proofs.stored.chunk_at.Goals as goal

pub returns-clause-value : goal.returns-clause-value
returns-clause-value c = chunk_is 4096 (4096 * c.args.place) c.min-end.result c.args.bytes.now (omega (arith, c.min-end.ensures))
