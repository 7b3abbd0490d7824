use Rattle.wal_reader.proofs.Common.{rules, metadata_shown}
use Rattle.wal_reader.proofs.HeldSlivers.{is_carried, not_held}
use Rattle.wal_reader.proofs.slivers.held_sliver_of.Goals as goal

pub returns-then-is_held-clause-some : goal.returns-then-is_held-clause-some
returns-then-is_held-clause-some g c =
    is_carried g.H.Hash32.digest c.args.id.now.0 (metadata_shown c.args.m) c.args.axis c.args.index c.args.payload.now c.in-Some.sliver.index
    c.in-Some.sliver.bytes.now c.in-Some.ensures.some (c.is_held.ensures.held.0 c.if-is_held.true)

pub returns-then-is_held-clause-index : goal.returns-then-is_held-clause-index
returns-then-is_held-clause-index g c = (c.is_held.ensures.held.0 c.if-is_held.true).0

pub returns-else-is_held-clause-none : goal.returns-else-is_held-clause-none
returns-else-is_held-clause-none g c =
    not_held g.H.Hash32.digest c.args.id.now.0 (metadata_shown c.args.m) c.args.axis c.args.index c.args.payload.now c.in-Some.sliver.index
    c.in-Some.sliver.bytes.now c.in-Some.ensures.some (search rules)
