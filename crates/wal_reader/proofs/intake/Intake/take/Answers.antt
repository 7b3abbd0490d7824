use Rattle.wal_reader.proofs.Common.{◌++◌, ap, append_assoc, length, arith, err_from_is_err_and, length-append}
use Rattle.wal_reader.proofs.IntakeLaws.{refuses_all}
use Rattle.wal_reader.proofs.intake.Intake.take.Goals as goal

pub envelopes-preserved : goal.envelopes-preserved
envelopes-preserved g c =
    let inv = c.envelopes.invariant in
    let m = c.in_ok-left.ensures.moves in
    let bytes = inv.so_far.0 in record {
      sound = m.sound;
      limit = omega (arith, inv.limit, m.count, ap length m.parts, length-append m.bytes c.in_ok-left.left.now);
      so_far = (
        bytes ++ m.bytes,
        cc (inv.so_far.1, m.parts, append_assoc bytes m.bytes c.in_ok-left.left.now),
        λ id stream s. rw append_assoc at (m.takes id (stream ++ bytes) (inv.so_far.2 id stream s)),
      );
      settled = λ settled. m.settled (inv.settled settled);
    }

pub returns-in_err-left-clause-refuses : goal.returns-in_err-left-clause-refuses
returns-in_err-left-clause-refuses g c =
    let inv = c.envelopes.invariant in
    let p = err_from_is_err_and c.from_residual.result c.from_residual.ensures.1 in
    rw (p.1, p.2) (refuses_all g.H.Hash32.digest _ _ c.args.piece.now inv.so_far.0 c.envelopes.left.now c.in_err-left.field-0.0 inv.so_far.1 inv.so_far.2 inv.settled inv.limit c.in_err-left.ensures.refuses)
