use Rattle.wal_shard.proofs.Common.{rules, ◌≡◌, ◌+◌, ◌≤◌, [], length, take, drop, unwrap_or, part_at}
use Rattle.wal_shard.proofs.Pieces.{same_more}
use Rattle.wal_shard.proofs.shard.Shard.holds_pieces.Goals as goal

pub pieces-preserved : goal.pieces-preserved
pieces-preserved g c =
    let held = unwrap_or (part_at c.args.self.now.contents c.args.id.now c.args.part) [] in
    let given = c.args.bytes.now in
    let done = c.pieces.done in
    let size = c.min-size.result in
    let within : done + size ≤ length given = search rules in
    let same : take size (drop done held) ≡ take size (drop done given) = search rules in
    record { within = within; same = same_more held given done size c.pieces.invariant.same same }
