use Rattle.wal_frame.proofs.Common.{sym, ◌∙◌, arith, IsBytes}
use Rattle.wal_frame.proofs.FrameLaws.{read_is, read_again, no_other, frame_found, frame_place}
use Rattle.wal_frame.proofs.reading.read_frame.Goals as goal

pub returns-clause-frame : goal.returns-clause-frame
returns-clause-frame c =
    frame_found c.args.bytes.now c.frame_of.result _
    (λ frame e. (read_is _ _ (λ i. omega (arith, c.type_inv.bytes i)) e).0) c.frame_of.ensures.frame

pub returns-clause-spelled : goal.returns-clause-spelled
returns-clause-spelled c =
    frame_found c.args.bytes.now c.frame_of.result _
    (λ frame e. (read_is _ _ (λ i. omega (arith, c.type_inv.bytes i)) e).1) c.frame_of.ensures.frame

pub returns-clause-only : goal.returns-clause-only
returns-clause-only c = λ x h same. rw (same, read_again x h) at c.frame_of.ensures.frame

pub returns-clause-alone : goal.returns-clause-alone
returns-clause-alone c =
    let fits : IsBytes c.args.bytes.now = λ i. omega (arith, c.type_inv.bytes i) in
    frame_found c.args.bytes.now c.frame_of.result _ (λ frame e x rest h same.
    no_other _ x rest (read_is _ _ fits e).0 h (sym (read_is _ _ fits e).1 ∙ same)) c.frame_of.ensures.frame

pub returns-clause-place : goal.returns-clause-place
returns-clause-place c = frame_place c.args.bytes.now c.frame_of.result c.frame_of.ensures.frame
