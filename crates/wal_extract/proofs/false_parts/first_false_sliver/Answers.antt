-- Each sliver is compared with the matrix's own.
use Rattle.wal_extract.proofs.Common.{◌≡◌, ◌∙◌, length, sym, rules, below_more, part_within}
use Rattle.wal_extract.proofs.false_parts.first_false_sliver.Goals as goal

pub part_at-requires : goal.part_at-requires
part_at-requires c =
    let run = rw c.shape.ensures at c.sliver_len-size.ensures.value in
    part_within c.loop-place.place (length c.args.indices.now) c.sliver_len-size.result _ c.loop-place-test.true
    (rw run c.requires.long)

pub loop-place-preserved : goal.loop-place-preserved
loop-place-preserved c =
    let run = rw c.shape.ensures at c.sliver_len-size.ensures.value in
    let same : c.part_at.result.now ≡ c.primary.result.now = search rules in
    below_more _ _ c.loop-place.invariant (sym (rw run at c.part_at.ensures.part) ∙ same ∙ c.primary.ensures.value)
