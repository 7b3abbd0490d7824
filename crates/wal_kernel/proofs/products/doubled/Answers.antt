use Rattle.wal_kernel.proofs.Common.{arith}
use Rattle.wal_kernel.proofs.ProductLemmas.{doubled-word}
use Rattle.wal_kernel.proofs.products.doubled.Goals as goal

pub returns : goal.returns
returns c = doubled-word c.args.word (omega arith)
