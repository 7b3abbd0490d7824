use Rattle.wal_bundle.proofs.Common.{◌∙◌, arith, below_more, IfOk-weaker, Secondary, metadata_shown, held_one_root}
use Rattle.wal_bundle.proofs.Truths.{column_held}
use Rattle.wal_bundle.proofs.collisions.collide_columns.Goals as goal

pub slivers-requires-clause-one : goal.slivers-requires-clause-one
slivers-requires-clause-one g c =
    let held = column_held g.H.Hash32.digest c.args.id.now.0 (metadata_shown c.args.m) c.f.ensures.metadata.shape in
    let left = rw c.in-Some.is at c.in_ok-left.ensures.left in
    let right = rw c.in-Some.is at c.in_ok-left.ensures.right in
    rw (c.f-in-Some.ensures.value, c.as_slice.ensures, c.as_slice-in-Some.ensures)
    (held_one_root _ _ Secondary c.loop-j.j _ _ c.f.ensures.metadata.shape (held c.args.a.now _ _ left)
    (held c.args.b.now _ _ right))

pub loop-j-preserved : goal.loop-j-preserved
loop-j-preserved g c = record {
  agree = below_more _ _ c.loop-j.invariant.agree (rw c.in_default.is at c.in_ok-left.ensures.none);
  f = c.in_ok-left.ensures.f ∙ c.loop-j.invariant.f;
}

pub unreachable-requires : goal.unreachable-requires
unreachable-requires g c =
    let count = rw c.shape.ensures.value at c.n-j-end.ensures.value in
    c.requires (λ j less. c.loop-j.invariant.agree j (omega (arith, count, c.loop-j-test.false)))

pub returns-in-Some-clause-texts : goal.returns-in-Some-clause-texts
returns-in-Some-clause-texts g c =
    let left = rw c.in-Some.is at c.in_ok-left.ensures.left in
    let right = rw c.in-Some.is at c.in_ok-left.ensures.right in
    IfOk-weaker c.slivers.result _ _
    (λ t texts. let here = rw (c.f-in-Some.ensures.value, c.as_slice.ensures, c.as_slice-in-Some.ensures) at texts in
    (c.loop-j.j, _, _, c.loop-j.invariant.agree, left, right, here))
    c.slivers.ensures.texts
