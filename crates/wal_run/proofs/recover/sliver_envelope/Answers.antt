use Rattle.wal_run.proofs.Common.{rules, ◌≡◌, length, arith, length-sliver_frame}
use Rattle.wal_run.proofs.recover.sliver_envelope.Goals as goal

pub frame_envelope-requires-clause-frame : goal.frame_envelope-requires-clause-frame
frame_envelope-requires-clause-frame c = record { id_size = search rules; index_most = c.requires.index; size_most = c.requires.size }

pub frame_envelope-requires-clause-room : goal.frame_envelope-requires-clause-room
frame_envelope-requires-clause-room c =
    let id_size : length c.args.id.0 ≡ 32 = search rules in
    let size = length-sliver_frame c.args.id.0 c.args.axis c.args.index c.args.bytes.now id_size in
    omega (arith, size)
