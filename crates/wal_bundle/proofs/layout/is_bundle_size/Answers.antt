use Rattle.wal_bundle.proofs.Common.{◌-◌, arith}
use Rattle.std.proofs.lemmas.Bool.Decides.{Decides-not}
use Rattle.wal_bundle.proofs.Room.{least_by_next, none_below}
use Rattle.wal_bundle.proofs.layout.is_bundle_size.Goals as goal

pub returns-else-half-eq1 : goal.returns-else-half-eq1
returns-else-half-eq1 c =
    let some = c.requires.some in
    let other = c.if-half-eq1.false in
    let here = c.has_room.ensures in
    let below = Decides-not c.has_room-else-half-eq1.result c.has_room-else-half-eq1.ensures in (
      λ fewer. least_by_next _ _ _ (c.args.half - 1) (omega arith) (here.0 c.if-has_room.true) (below.0 fewer),
      λ is. below.1 (none_below _ _ _ (c.args.half - 1) is (omega arith) (omega arith)),
    )
