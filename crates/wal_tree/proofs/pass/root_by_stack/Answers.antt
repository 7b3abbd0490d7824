-- A turn pushes the next digest; at most 1000 digests leave room for it.
use Rattle.wal_tree.proofs.Common.{◌/◌, ◌∷◌, List, ℕ, length, arith, ap, sym, ◌∙◌, chunks_exact_rest, pieces, climb, weight}
use Rattle.wal_tree.proofs.Roots.{count-cons, pieces-cons, pieces-short, pass-room, pass-step, weight-pushed}
use Rattle.wal_tree.proofs.pass.root_by_stack.Goals as goal

pub push-requires : goal.push-requires
push-requires g c =
    let l = c.loop-piece in
    let step = c.in-Some.ensures.steps.1 in
    pass-room g.H.Hash32.digest (length c.args.digests.now) 32 c.in-Some.piece.now (chunks_exact_rest c.next.new.self) (chunks_exact_rest l.piece-iterator) l.stack _
    (omega arith) (omega arith) (step.1 ∙ l.invariant.size) step.0 l.invariant.seen l.invariant.within

pub loop-piece-preserved : goal.loop-piece-preserved
loop-piece-preserved g c =
    let l = c.loop-piece in
    let digest = g.H.Hash32.digest in
    let piece = c.in-Some.piece.now in
    let rest = chunks_exact_rest c.next.new.self in
    let whole = chunks_exact_rest l.piece-iterator in
    let step = c.in-Some.ensures.steps.1 in
    let long = step.1 ∙ l.invariant.size in
    let entry = c.copy_from_slice.new.self in
    let coming = pieces (length rest / 32) 32 rest in
    let begins = pieces-cons 32 piece rest whole (omega arith) long step.0 ∙ ap (λ (d : List ℕ). d ∷ coming) (sym c.copy_from_slice.ensures.after) in
    let room = pass-room digest (length c.args.digests.now) 32 piece rest whole l.stack entry (omega arith) (omega arith) long step.0 l.invariant.seen l.invariant.within in
    let fewer = count-cons 32 piece rest whole (omega arith) long step.0 in
    let same = l.invariant.same ∙ pass-step digest entry (pieces (length whole / 32) 32 whole) coming l.stack c.push.new.self begins c.push.ensures in
    search (arith, same, c.in-Some.ensures.steps.0, l.invariant, ap weight c.push.ensures, weight-pushed digest l.stack entry, fewer, ap length c.push.ensures, room)

pub returns : goal.returns
returns g c =
    let l = c.loop-piece in
    let short = c.in-None.ensures.steps.1 in
    c.root.ensures
    ∙ sym (l.invariant.same ∙ ap (climb g.H.Hash32.digest l.stack) (pieces-short 32 (chunks_exact_rest l.piece-iterator) (omega (arith, short.0, l.invariant.size))))
