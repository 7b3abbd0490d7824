use Rattle.wal_evidence.proofs.Common.{◌<◌, ◌∙◌, Contains, true, get_or, refl, subst, sym, take, arith, slice_set, false≢true, take_more, Distinct, Marks}
use Rattle.wal_evidence.proofs.Marked.{distinct_more, marks_more, marks_none, repeated}
use Rattle.wal_evidence.proofs.crosses.are_distinct.Goals as goal

pub loop-number-init : goal.loop-number-init
loop-number-init c = record { marks = marks_none; distinct = λ i j d before within. absurd (omega arith) }

pub returns-then-seen-number : goal.returns-then-seen-number
returns-then-seen-number c =
    let i = c.loop-number.number-index in
    let inside = c.loop-number-test.true in
    let found = (c.loop-number.invariant.marks.up _ (c.requires i 0 inside)).0 c.if-seen-number.true in
    ((λ t. absurd (false≢true t)), (λ distinct. absurd (repeated c.args.numbers.now i _ inside refl found distinct)))

pub loop-number-preserved : goal.loop-number-preserved
loop-number-preserved c =
    let numbers = c.args.numbers.now in
    let i = c.loop-number.number-index in
    let x = get_or numbers i 0 in
    let inside = c.loop-number-test.true in
    let was = c.loop-number.invariant in
    let small : x < 1000 = c.requires i 0 inside in
    let new : Contains (take i numbers) x → ⊥ = λ found. false≢true (sym c.if-seen-number.false ∙ (was.marks.up x small).1 found) in
    let more = sym (take_more numbers i 0 inside) in
    record {
      marks = subst (Marks (slice_set c.loop-number.seen x true)) more (marks_more c.loop-number.seen (take i numbers) x small was.marks);
      distinct = subst Distinct more (distinct_more (take i numbers) x was.distinct new);
    }
