-- The three texts were added to the lanes one after the other.
use Rattle.wal_tree.proofs.LevelPairs.{toy32-joined}
use Rattle.wal_tree.proofs.hash.Toy32Hash32.hash3.Goals as goal

pub returns : goal.returns
returns c =
    toy32-joined c.add_to_lanes-after_a.new.sums c.add_to_lanes-after_b.new.sums c.add_to_lanes.new.sums
    c.args.a.now c.args.b.now c.args.c.now c.add_to_lanes-after_a.result c.add_to_lanes-after_b.result
    c.add_to_lanes.array_long
    c.add_to_lanes-after_a.ensures.lanes c.add_to_lanes-after_a.ensures.next
    c.add_to_lanes-after_b.ensures.lanes c.add_to_lanes-after_b.ensures.next c.add_to_lanes.ensures.lanes
