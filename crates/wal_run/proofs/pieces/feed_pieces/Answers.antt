use Rattle.wal_run.proofs.Common.{append-nil, ◌≡◌, ◌++◌, [], take, length-append, length-take-le, refl, arith, Consumes-nil, Consumes-trans, rose_since}
use Rattle.wal_run.proofs.PieceLaws.{piece_failed, feed_failed}
use Rattle.wal_run.proofs.pieces.feed_pieces.Goals as goal

pub pieces-init : goal.pieces-init
pieces-init g c = record {
  some = c.requires.some;
  within = omega arith;
  stream = ([], Consumes-nil _, refl, λ id stands. stands);
  later = omega arith;
}

pub returns-in_err-count-clause-takes : goal.returns-in_err-count-clause-takes
returns-in_err-count-clause-takes g c = λ id stands.
    let so_far = c.pieces.invariant.stream in
    piece_failed _ id _ _ _ _ _ c.pieces.reader c.from_residual.result c.in_err-count.field-0.0 so_far.0
    c.next_piece.new.buffer c.pieces.taken c.from_residual.ensures.1 so_far.1 so_far.2 c.pieces.invariant.within
    (rose_since _ _ _ c.pieces.invariant.later) c.in_err-count.ensures.gives

pub returns-then-count-eq0-clause-takes : goal.returns-then-count-eq0-clause-takes
returns-then-count-eq0-clause-takes g c = λ id stands.
    let so_far = c.pieces.invariant.stream in
    let gives = c.in_ok-count.ensures.gives in
    let none : c.in_ok-count.count ≡ 0 = omega (arith, c.if-count-eq0.true) in
    let given = Consumes-trans _ _ _ so_far.0 [] so_far.1 (rw none at gives.1) in
    (so_far.0, rw append-nil at given, gives.3 none, omega (arith, so_far.2, c.pieces.invariant.within), so_far.3 id stands)

pub returns-in_err-wrong-clause-takes : goal.returns-in_err-wrong-clause-takes
returns-in_err-wrong-clause-takes g c = λ id stands.
    let so_far = c.pieces.invariant.stream in
    let gives = c.in_ok-count.ensures.gives in
    let piece = take c.in_ok-count.count c.next_piece.new.buffer in
    let long = length-take-le c.in_ok-count.count c.next_piece.new.buffer gives.0 in
    feed_failed _ id _ _ _ _ _ _ c.from_residual-in_err-wrong.ensures.1
    (c.in_err-wrong.ensures.feeds id so_far.0 (so_far.3 id stands) (omega (arith, so_far.2, long, gives.2)))
    (so_far.0 ++ piece, Consumes-trans _ _ _ so_far.0 piece so_far.1 gives.1, omega (arith, length-append so_far.0 piece, so_far.2, long, gives.2))

pub pieces-preserved : goal.pieces-preserved
pieces-preserved g c =
    let so_far = c.pieces.invariant.stream in
    let gives = c.in_ok-count.ensures.gives in
    let piece = take c.in_ok-count.count c.next_piece.new.buffer in
    let long = length-take-le c.in_ok-count.count c.next_piece.new.buffer gives.0 in
    record {
      some = omega (arith, c.next_piece.auto.buffer, c.pieces.invariant.some);
      within = gives.2;
      stream = (
        so_far.0 ++ piece,
        Consumes-trans _ _ _ so_far.0 piece so_far.1 gives.1,
        omega (arith, length-append so_far.0 piece, so_far.2, long),
        λ id stands. c.in_ok-wrong.ensures.feeds id so_far.0 (so_far.3 id stands) (omega (arith, so_far.2, long, gives.2)),
      );
      later = omega (arith, c.pieces.invariant.later, c.next_piece.ensures.later);
    }
