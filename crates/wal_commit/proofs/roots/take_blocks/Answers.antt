use Rattle.wal_commit.proofs.Common.{rules, ◌≡◌, ap, subst, sym, arith, ◌∙◌, shard_count, FrontState, IsFrontOf}
use Rattle.wal_commit.proofs.roots.take_blocks.Goals as goal

pub loop-first-preserved : goal.loop-first-preserved
loop-first-preserved g c =
    let l = c.loop-first in
    record {
      front = subst (IsFrontOf c.args.bytes.now) (sym c.take_columns.ensures.front) l.invariant.front;
      shape = ap (λ (v : FrontState). v.shape) c.take_columns.ensures.front ∙ l.invariant.shape;
      rows = c.take_columns.ensures.rows;
      block = (search rules);
      digests = (search rules);
      within = omega (arith, c.min-width.ensures, l.invariant.within);
      seen = λ e is before. c.in_ok-take_columns.ensures.seen e is (l.invariant.seen e is before);
    }

pub returns-clause-seen : goal.returns-clause-seen
returns-clause-seen g c =
    λ e is before.
    let l = c.loop-first in
    let f = c.args.shape.now.f in
    let all : l.first ≡ shard_count f = omega (arith, c.loop-first-test.false, l.invariant.within, c.requires.count) in
    rw all at (l.invariant.seen e is before)
