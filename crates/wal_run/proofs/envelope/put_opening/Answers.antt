use Rattle.wal_run.proofs.Common.{rules, ◌≡◌, length, arith, opening_shown, length-opening_frame}
use Rattle.wal_run.proofs.envelope.put_opening.Goals as goal

pub put_frame-requires-clause-frame : goal.put_frame-requires-clause-frame
put_frame-requires-clause-frame g c = (record { id_size = search rules; index_most = c.requires.index }, c.requires.opening)

pub put_frame-requires-clause-buffer : goal.put_frame-requires-clause-buffer
put_frame-requires-clause-buffer g c =
    let id_size : length c.args.id.0 ≡ 32 = search rules in
    let size = length-opening_frame c.args.id.0 c.args.axis c.args.index (opening_shown c.args.opening) id_size in
    omega (arith, size, c.requires.buffer)
