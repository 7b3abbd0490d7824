use Rattle.wal_ledger.proofs.Common.{◌||◌, ap, sym, ◌∙◌, arith, or_left, has_neighbour}
use Rattle.wal_ledger.proofs.TallyLaws.{walks, walk_end}
use Rattle.wal_ledger.proofs.tally.is_linked.Goals as goal

pub offset_bounds-entries-place : goal.offset_bounds-entries-place
offset_bounds-entries-place c = omega (arith, c.loop-next.invariant.fits)

pub bounds-entries-place : goal.bounds-entries-place
bounds-entries-place c = (walks _ _ _ c.loop-next.next _ c.loop-next-test.true c.loop-next.invariant.chained.1).entry_within

pub returns-then-signs_for : goal.returns-then-signs_for
returns-then-signs_for c shards chain =
    let on = c.loop-next.invariant.same shards chain in
    let here = walks _ _ _ c.loop-next.next _ c.loop-next-test.true on.1.0 in
    sym (on.1.1 ∙ here.same c.args.owners.now c.args.shard _ ∙ or_left _ (has_neighbour c.args.owners.now here.rest c.args.shard) (sym c.signs_for.ensures ∙ c.if-signs_for.true))

pub offset_bounds-links-place : goal.offset_bounds-links-place
offset_bounds-links-place c = omega (arith, c.loop-next.invariant.fits)

pub bounds-links-place : goal.bounds-links-place
bounds-links-place c = (walks _ _ _ c.loop-next.next _ c.loop-next-test.true c.loop-next.invariant.chained.1).link_within

pub loop-next-smaller : goal.loop-next-smaller
loop-next-smaller c = (walks _ _ _ c.loop-next.next _ c.loop-next-test.true c.loop-next.invariant.chained.1).below

pub loop-next-preserved : goal.loop-next-preserved
loop-next-preserved c =
    let here = walks _ _ _ c.loop-next.next _ c.loop-next-test.true c.loop-next.invariant.chained.1 in
    record {
      fits = omega (arith, here.below, c.loop-next.invariant.fits);
      chained = (here.rest, here.chain);
      same = λ shards chain.
          let on = c.loop-next.invariant.same shards chain in
          let after = walks _ _ _ c.loop-next.next _ c.loop-next-test.true on.1.0 in
          (after.rest, (after.chain, on.1.1 ∙ after.same c.args.owners.now c.args.shard _ ∙ ap (λ b. b || has_neighbour c.args.owners.now after.rest c.args.shard) (sym c.signs_for.ensures ∙ c.if-signs_for.false)));
    }

pub returns : goal.returns
returns c shards chain =
    let on = c.loop-next.invariant.same shards chain in
    sym (on.1.1 ∙ walk_end c.args.owners.now c.args.entries.now c.args.links.now c.args.kind c.loop-next.next c.args.shard on.0 c.loop-next-test.false on.1.0)
