-- The sliver at the place that was found has one root with the matrix's own.
use Rattle.wal_extract.proofs.Common.{length, IfOk-weaker, part_within}
use Rattle.wal_extract.proofs.false_parts.collide_held.Goals as goal

pub part_at-given-requires : goal.part_at-given-requires
part_at-given-requires g c =
    let run = rw c.shape.ensures at c.sliver_len-size.ensures.value in
    let place = c.first_false_sliver-place in
    part_within place.result (length c.args.indices.now) c.sliver_len-size.result _ place.ensures.within
    (rw run c.requires.apart.long)

pub slivers-requires-clause-one : goal.slivers-requires-clause-one
slivers-requires-clause-one g c =
    let run = rw c.shape.ensures at c.sliver_len-size.ensures.value in
    let place = c.first_false_sliver-place in
    rw (c.f.ensures.value, c.shape-2.ensures, c.part_at-given.ensures.part, run, c.primary-own.ensures.value)
    (c.requires.meet.each place.result place.ensures.within)

pub slivers-requires-clause-differ : goal.slivers-requires-clause-differ
slivers-requires-clause-differ g c =
    let run = rw c.shape.ensures at c.sliver_len-size.ensures.value in
    rw (c.part_at-given.ensures.part, run, c.primary-own.ensures.value) c.first_false_sliver-place.ensures.apart

pub returns-clause-texts : goal.returns-clause-texts
returns-clause-texts g c =
    let run = rw c.shape.ensures at c.sliver_len-size.ensures.value in
    let part = rw run at c.part_at-given.ensures.part in
    let f = rw c.shape-2.ensures at c.f.ensures.value in
    let place = c.first_false_sliver-place in
    IfOk-weaker c.slivers.result _ _
    (λ t texts. (place.result, place.ensures.within, rw (f, part, c.primary-own.ensures.value) at texts))
    c.slivers.ensures.texts
