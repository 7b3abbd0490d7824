use Rattle.wal_lanes.proofs.Common.{replicate, get_or-replicate}
use Rattle.wal_lanes.proofs.Taken.{taken_none}
use Rattle.wal_lanes.proofs.strips.begun.Goals as goal

pub returns : goal.returns
returns c = λ k l piece.
    taken_none k c.args.prefix piece (record { state = c.initial.result; last = replicate 8 c.args.prefix }) (c.initial.ensures k l) (get_or-replicate 8 k c.args.prefix 0 l)
