use Rattle.wal_shard.proofs.Common.{rules, ◌≡◌, arith, Opening, frame_text, envelope, appended}
use Rattle.wal_shape.specs.Opening.{opening_shown}
use Rattle.wal_frame.proofs.FrameLaws.{length-opening_frame}
use Rattle.wal_shard.proofs.ReplyLaws.{length-envelope, room_left}
use Rattle.wal_shard.proofs.replying.append_opening.Goals as goal

pub write_frame-requires-clause-frame : goal.write_frame-requires-clause-frame
write_frame-requires-clause-frame c =
    (record { id_size = search rules; index_most = c.requires.index }, c.requires.body)

pub write_frame-requires-clause-room : goal.write_frame-requires-clause-room
write_frame-requires-clause-room c =
    let o = opening_shown c.args.opening in
    let text = frame_text (Opening c.args.id.0 c.args.axis c.args.index o) in
    let long = length-opening_frame c.args.id.0 c.args.axis c.args.index o (search rules) in
    omega (arith, length-envelope c.args.shard text, long, c.requires.room)

pub returns-clause-room : goal.returns-clause-room
returns-clause-room c =
    let o = opening_shown c.args.opening in
    let text = frame_text (Opening c.args.id.0 c.args.axis c.args.index o) in
    let written : c.write_frame.new.out ≡ appended c.args.out.now (envelope c.args.shard text) = search rules in
    let long = length-opening_frame c.args.id.0 c.args.axis c.args.index o (search rules) in
    omega (arith, room_left _ _ c.args.shard text written, long)
