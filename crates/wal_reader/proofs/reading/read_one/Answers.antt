use Rattle.wal_reader.proofs.Common.{arith, metadata_shown}
use Rattle.wal_reader.proofs.Collections.{collects_counted}
use Rattle.wal_reader.proofs.reading.read_one.Goals as goal

pub overflow_cast-have : goal.overflow_cast-have
overflow_cast-have g c =
    let held = c.in_ok-collected.collected in
    let few = collects_counted g.H.Hash32.digest c.args.id.now.0 (metadata_shown c.args.m) c.args.payloads.now
    held.indices.items held.joined.items c.requires (rw c.as_slice.ensures at c.in_ok-collected.ensures.collects) in
    omega (arith, few, c.len-have.ensures)

pub unsettled-requires-clause-few : goal.unsettled-requires-clause-few
unsettled-requires-clause-few g c = (
  c.in_ok-collected.collected.indices.items,
  c.in_ok-collected.collected.joined.items,
  rw c.as_slice.ensures at c.in_ok-collected.ensures.collects,
  omega (arith, c.len-have.ensures),
  omega (arith, c.if-have-f.true, c.f-2.ensures.value),
)
