use Rattle.wal_serve.proofs.Common.{arith}
use Rattle.wal_serve.proofs.RoomLaws.{asks, enough, metadata_most}
use Rattle.wal_serve.proofs.desk.desk_room.Goals as goal

pub returns-clause-enough : goal.returns-clause-enough
returns-clause-enough c = λ digest x is may. omega (arith, enough digest c.args.f x c.requires.some c.requires.few is may, c.longest_frame.ensures)

pub returns-clause-metadata : goal.returns-clause-metadata
returns-clause-metadata c = λ m fit. omega (arith, metadata_most c.args.f m c.requires.some c.requires.few fit, c.longest_frame.ensures)

pub returns-clause-asks : goal.returns-clause-asks
returns-clause-asks c = λ x is only. omega (arith, asks c.args.f x c.requires.some c.requires.few is only, c.longest_frame.ensures)
