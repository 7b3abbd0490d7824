use Rattle.wal_recover.proofs.Common.{◌≡◌, ◌+◌, ◌++◌, ◌∷◌, [], List, subst, sym, take, take_more, Opening, metadata_shown, marks_none, GivesOpening, Takes, takes_more}
use Rattle.wal_recover.proofs.taking.take_openings.Goals as goal

pub loop-opening-init : goal.loop-opening-init
loop-opening-init g c =
    record {
      marks = rw c.new.ensures.items marks_none;
      takes = c.new.ensures.items;
    }

pub loop-opening-preserved : goal.loop-opening-preserved
loop-opening-preserved g c =
    let openings = c.args.openings.now in
    let i = c.loop-opening.opening-index in
    let o = c.opening-item.result in
    let front : take (i + 1) openings ≡ take i openings ++ o ∷ [] =
    cc (take_more openings i o c.loop-opening-test.true, c.opening-item.is) in
    record {
      marks = c.in_ok-add_opening.ensures.marks;
      takes = subst (λ (os : List Opening). Takes g.H.Hash32.digest (metadata_shown c.args.m) c.args.axis c.args.index os
          c.args.most c.add_opening.new.collected.taken.items) (sym front) (takes_more (GivesOpening g.H.Hash32.digest (metadata_shown c.args.m) c.args.axis c.args.index)
          (λ x. x.cross) c.args.most [] (take i openings) c.loop-opening.collected.taken.items
          c.add_opening.new.collected.taken.items o c.loop-opening.invariant.takes c.in_ok-add_opening.ensures.added);
    }
