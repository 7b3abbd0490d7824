use Rattle.wal_reader.proofs.Common.{◌≤◌, ◌∙◌, length, take, refl, arith, length-take-le}
use Rattle.wal_reader.proofs.IntakeLaws.{kept_whole, kept_part, moved, sound_empty}
use Rattle.wal_reader.proofs.intake.Intake.keep.Goals as goal

pub returns-then-branch-clause-moves : goal.returns-then-branch-clause-moves
returns-then-branch-clause-moves g c =
    let piece = c.args.piece.now in
    let count = c.min-count.result in
    let le : count ≤ length piece = omega (arith, c.min-count.ensures) in
    let long = length-take-le count piece le in
    moved g.H.Hash32.digest _ _ piece count (omega (arith, c.min-count.ensures, c.lacking.ensures.some, c.requires.some)) le refl
    (kept_whole g.H.Hash32.digest _ _ c.deref.result.now c.deref-2.result.now (take count piece) c.lacking.result
    c.deref.ensures.value (c.deref-2.ensures.value ∙ c.in_ok-extend_from_slice.ensures.items)
    (rw c.if-branch.true at c.in_ok-hear_whole.ensures.hears) (omega (arith, long, c.min-count.ensures))
    c.lacking.ensures.head c.lacking.ensures.whole c.requires.kept c.requires.kept c.clear.ensures.items
    (omega (arith, long)) refl)
    (sound_empty _
    (omega (arith, c.requires.sound.room, c.in_ok-extend_from_slice.ensures.capacity, c.clear.ensures.capacity))
    (omega (arith, le, c.requires.limit)) c.clear.ensures.items)
    (λ settled. let m = c.in_ok-hear_whole.ensures.memory settled in m.1)

pub returns-clause-moves : goal.returns-clause-moves
returns-clause-moves g c =
    let piece = c.args.piece.now in
    let count = c.min-count.result in
    let le : count ≤ length piece = omega (arith, c.min-count.ensures) in
    let part = kept_part g.H.Hash32.digest _ _ c.deref-2.result.now (take count piece)
    (c.deref-2.ensures.value ∙ c.in_ok-extend_from_slice.ensures.items) c.deref-2.ensures.value
    (rw c.if-branch.false at c.in_ok-hear_whole.ensures.hears) c.requires.kept c.requires.kept
    (omega (arith, length-take-le count piece le)) refl in
    moved g.H.Hash32.digest _ _ piece count (omega (arith, c.min-count.ensures, c.lacking.ensures.some, c.requires.some)) le refl part.0
    (record {
      room = omega (arith, c.requires.sound.room, c.in_ok-extend_from_slice.ensures.capacity);
      limit = omega (arith, le, c.requires.limit);
      unfinished = part.1;
      apart = λ some. absurd (omega (arith, some, c.requires.kept));
    })
    (λ settled. let m = c.in_ok-hear_whole.ensures.memory settled in m.1)
