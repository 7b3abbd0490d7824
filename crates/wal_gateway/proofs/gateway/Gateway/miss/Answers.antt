-- A read's outcome, and what it leaves of the list.
use Rattle.wal_gateway.proofs.Common.{asked}
use Rattle.wal_gateway.proofs.Sound.{read_checked}
use Rattle.wal_gateway.proofs.Endings.{ends_bytes, ends_none}
use Rattle.wal_gateway.proofs.gateway.Gateway.miss.Goals as goal

pub enter-requires-clause-checked : goal.enter-requires-clause-checked
enter-requires-clause-checked g c =
    let of = c.requires.read in
    read_checked g.H.Hash32.digest c.args.id.now of.0 c.args.read.outcome c.args.read.evidence c.shape_in-shape.result c.in-Bytes.bytes of.1.2 c.in-Bytes.is c.shape_in-shape.ensures

pub returns-in-Bytes : goal.returns-in-Bytes
returns-in-Bytes g c = λ payloads read.
    let get = asked c.args.id.now c.args.from c.args.size payloads in
    let entered = c.in_ok-found-in-Bytes.ensures.entered in
    ends_bytes g.H.Hash32.digest c.args.self.now get c.args.read.outcome c.args.read.evidence c.shape_in-shape.result c.in-Bytes.bytes c.in_ok-found-in-Bytes.found c.enter.new.self
    c.requires.none read.0 read.1 read.2 c.in-Bytes.is c.shape_in-shape.ensures entered.0 entered.1

pub returns : goal.returns
returns g c = λ payloads read.
    let get = asked c.args.id.now c.args.from c.args.size payloads in
    ends_none g.H.Hash32.digest c.args.self.now get c.args.read.outcome c.missed.result c.requires.none read.0 read.1 c.in_default.not-Bytes (c.missed.ensures c.args.from c.args.size)
