use Rattle.wal_shape.proofs.Common.{arith}
use Rattle.wal_shape.proofs.ProofLaws.{head_found, head_unread}
use Rattle.wal_shape.proofs.proof.proof_head.Goals as goal

pub returns-clause-whole : goal.returns-clause-whole
returns-clause-whole c = head_found c.args.bytes.now c.read_head.result (λ i. omega (arith, c.type_inv.bytes i)) c.read_head.ensures

pub returns-clause-none : goal.returns-clause-none
returns-clause-none c = head_unread c.args.bytes.now c.read_head.result c.read_head.ensures
