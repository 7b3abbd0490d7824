use Rattle.wal_bundle.proofs.Common.{ℕ, ◌*◌, List, length, arith, length-map, lengths_of}
use Rattle.wal_bundle.proofs.Bundled.{bundle_short}
use Rattle.wal_bundle.proofs.Room.{some_least}
use Rattle.wal_bundle.proofs.bundling.bundle_of.Goals as goal

pub returns-then-half-most : goal.returns-then-half-most
returns-then-half-most c =
    let members = c.args.members.now in
    let count = length-map members (λ (x : List ℕ). length x) in
    let least = some_least c.args.f (lengths_of members) (omega (arith, count, c.requires.few)) in
    let none = c.least_half-half.ensures.none c.if-half-most.true in
    let longer = none least.0 least.1.even least.1.positive (rw c.requires.lengths least.1.room) in
    (c.requires.some, c.requires.faults, c.requires.few, least.0, least.1, c.most_half-most.ensures.most least.0 longer least.1.even)

pub returns : goal.returns
returns c =
    let half = c.least_half-half.result in
    let least = rw c.requires.lengths at (c.least_half-half.ensures.least c.if-half-most.false) in (
      c.requires.some,
      c.requires.faults,
      record { few = c.requires.few; size = 2 * half; least = least; text = c.in_ok-laid.ensures },
      rw c.in_ok-laid.ensures (bundle_short c.args.f half _ c.args.members.now least c.if-half-most.false
          c.most_half-most.ensures.within),
    )
