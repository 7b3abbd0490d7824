use Rattle.wal_lanes.proofs.pieces.lane_of.Goals as goal

pub returns : goal.returns
returns c = cc
