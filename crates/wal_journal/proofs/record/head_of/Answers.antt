use Rattle.wal_journal.proofs.Common.{arith}
use Rattle.wal_journal.proofs.HeldLaws.{head_bytes}
use Rattle.wal_journal.proofs.record.head_of.Goals as goal

pub returns : goal.returns
returns c = head_bytes c.args.text.now c.copy_from_slice.new.self c.from_be_bytes.result c.requires (λ i. omega (arith, c.type_inv.text i)) c.copy_from_slice.ensures.after c.from_be_bytes.ensures
