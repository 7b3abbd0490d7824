use Rattle.wal_lanes.proofs.Common.{◌≡◌, ◌+◌, ◌-◌, ◌*◌, ◌/◌, length, arith}
use Rattle.wal_lanes.proofs.digest_pieces.Goals as goal

pub returns-then-count-gt0 : goal.returns-then-count-gt0
returns-then-count-gt0 c =
    let count = length c.args.content.now / c.args.size in
    let last : count - 8 + 8 ≡ count = omega arith in
    rw last at (c.write_lanes-then-count-gt0.ensures (8 * c.groups.group) (omega arith) c.groups.invariant)
