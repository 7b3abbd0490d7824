use Rattle.wal_frame.proofs.Common.{◌^◌, arith, rules, w32, wide32}
use Rattle.wal_frame.proofs.FieldLaws.{number_back}
use Rattle.wal_frame.proofs.number.u32_in.Goals as goal

pub returns-clause-number : goal.returns-clause-number
returns-clause-number c = search rules

pub returns-clause-back : goal.returns-clause-back
returns-clause-back c =
    number_back w32 (2 ^ 32) wide32 c.args.bytes.now c.read_u32.result c.requires (λ i. omega (arith, c.type_inv.bytes i)) (returns-clause-number c)
