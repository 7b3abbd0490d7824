use Rattle.wal_bundle.proofs.Common.{sym, ap, ◌∙◌, arith, below_more, IfOk-weaker, Secondary, metadata_shown, BlobMetadata, metadata_over, honest_sliver, held_one_root}
use Rattle.wal_bundle.proofs.Truths.{column_held}
use Rattle.wal_bundle.proofs.collisions.collide_own.Goals as goal

pub slivers-requires-clause-one : goal.slivers-requires-clause-one
slivers-requires-clause-one g c =
    let e = c.args.matrix.now in
    let fit = c.f.ensures.metadata.shape in
    let mine = honest_sliver g.H.Hash32.digest Secondary e.shape e.cells c.loop-j.j c.requires.coded
    (omega (arith, c.loop-j-test.true, rw c.shape.ensures at c.n-j-end.ensures.value)) in
    rw (c.f-in-Some.ensures.value, c.as_slice.ensures, c.deref-in-Some.ensures.value)
    (held_one_root _ _ Secondary c.loop-j.j _ _ fit
    (column_held g.H.Hash32.digest c.args.id.now.0 (metadata_shown c.args.m) fit c.args.payloads.now _ _
    (rw c.in-Some.is at c.in_ok-column.ensures.column))
    (rw (← c.requires.metadata, ← c.in_ok-own.ensures) at mine))

pub loop-j-preserved : goal.loop-j-preserved
loop-j-preserved g c =
    let none = rw c.in_default.is at c.in_ok-column.ensures.none in
    record {
      agree = below_more _ _ c.loop-j.invariant.agree
          (λ x y is_x is_y. none x is_x ∙ c.deref.ensures.value ∙ c.in_ok-own.ensures ∙ sym is_y);
      f = c.in_ok-column.ensures.f ∙ c.loop-j.invariant.f;
    }

pub unreachable-requires : goal.unreachable-requires
unfolding metadata_over
unreachable-requires g c =
    let faults = ap (λ (x : BlobMetadata). x.f) c.requires.metadata in
    c.requires.apart (λ j less. c.loop-j.invariant.agree j
    (omega (arith, faults, rw c.shape.ensures at c.n-j-end.ensures.value, c.loop-j-test.false)))

pub returns-in-Some-clause-texts : goal.returns-in-Some-clause-texts
returns-in-Some-clause-texts g c =
    let column = rw c.in-Some.is at c.in_ok-column.ensures.column in
    IfOk-weaker c.slivers.result _ _
    (λ t texts. let here = rw (c.f-in-Some.ensures.value, c.as_slice.ensures, c.deref-in-Some.ensures.value) at texts in
    (c.loop-j.j, _, _, c.loop-j.invariant.agree, column, c.in_ok-own.ensures, here))
    c.slivers.ensures.texts
