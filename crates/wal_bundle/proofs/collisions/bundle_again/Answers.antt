use Rattle.wal_bundle.proofs.Bundled.{not_too_long}
use Rattle.wal_bundle.proofs.collisions.bundle_again.Goals as goal

pub unreachable-requires-in-Err-TooLong : goal.unreachable-requires-in-Err-TooLong
unreachable-requires-in-Err-TooLong c =
    let told = rw c.in-Err-TooLong.field-0-is at c.in-Err-TooLong.ensures.bundled in
    let shape = c.requires.2 in
    not_too_long c.args.f c.args.members.now c.requires.0 (shape.0, shape.1, c.requires.1, shape.2) told
