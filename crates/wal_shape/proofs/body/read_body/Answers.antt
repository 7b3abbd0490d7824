use Rattle.wal_shape.proofs.Common.{sym, ◌∙◌, arith, opening_shown}
use Rattle.wal_shape.proofs.BodyLaws.{body_taken, body_rest, body_read, length-body_text}
use Rattle.wal_shape.proofs.Numbers.{IsBytes}
use Rattle.wal_shape.proofs.body.read_body.Goals as goal

pub returns-in_err-opening-clause-only : goal.returns-in_err-opening-clause-only
returns-in_err-opening-clause-only c = λ o rest h same. absurd (cc (body_read c.args.bytes.now o rest h same, c.in_err-opening.ensures))

pub overflow_add-size : goal.overflow_add-size
overflow_add-size c = omega (arith, (body_taken _ _ c.in_ok-opening.ensures).0)

pub overflow_cast-size : goal.overflow_cast-size
overflow_cast-size c = omega (arith, (body_taken _ _ c.in_ok-opening.ensures).0)

pub overflow_add-size-2 : goal.overflow_add-size-2
overflow_add-size-2 c = omega (arith, (body_taken _ _ c.in_ok-opening.ensures).0)

pub returns-clause-opening : goal.returns-clause-opening
returns-clause-opening c = (body_taken _ _ c.in_ok-opening.ensures).0

pub returns-clause-spelled : goal.returns-clause-spelled
returns-clause-spelled c =
    let fits : IsBytes c.args.bytes.now = λ i. omega (arith, c.type_inv.bytes i) in
    rw (body_rest _ _ fits c.in_ok-opening.ensures) ((body_taken _ _ c.in_ok-opening.ensures).1.parts fits)

pub returns-clause-size : goal.returns-clause-size
returns-clause-size c = omega (arith, length-body_text (opening_shown c.in_ok-opening.opening))

pub returns-clause-exact : goal.returns-clause-exact
returns-clause-exact c =
    rw (body_rest _ _ (λ i. omega (arith, c.type_inv.bytes i)) c.in_ok-opening.ensures) c.in_ok-opening.ensures

pub returns-clause-only : goal.returns-clause-only
returns-clause-only c = λ o rest h same. sym (body_read c.args.bytes.now o rest h same) ∙ returns-clause-exact c
