use Rattle.wal_bundle.proofs.Common.{ℕ, ◌*◌, ◌≤◌, List, length, ap, arith, length-map, most_bytes, lengths_of}
use Rattle.wal_bundle.proofs.Room.{some_least, too_long}
use Rattle.wal_bundle.proofs.bundling.make.Goals as goal

pub returns-in-None : goal.returns-in-None
returns-in-None c =
    let members = c.args.members.now in
    let few : length members ≤ 2 * c.args.f = omega (arith, ap length c.as_slice-members.ensures) in
    let long = rw (c.in-None.is, c.as_slice-members.ensures) at c.in_ok-lengths.ensures.none in
    let count = length-map members (λ (x : List ℕ). length x) in
    let least = some_least c.args.f (lengths_of members) (omega (arith, count, few)) in
    let longer =
    too_long c.args.f least.0 (lengths_of members) long.0 most_bytes (omega (arith, count, long.1)) long.2 least.1 in
    (c.if-f-lt1.false, c.if-f-gt333.false, few, least.0, least.1, longer)
