use Rattle.wal_erasure.proofs.Common.{rules, arith, pow_mono}
use Rattle.wal_erasure.proofs.SolvedLaws.{strip_solved}
use Rattle.wal_erasure.proofs.solution.solve_strip.Goals as goal

pub restore-requires-clause-points : goal.restore-requires-clause-points
restore-requires-clause-points c = omega (arith, pow_mono c.requires.level)

pub evaluate-requires-clause-points : goal.evaluate-requires-clause-points
evaluate-requires-clause-points c = omega (arith, pow_mono c.requires.level)

pub returns : goal.returns
returns c =
    strip_solved c.args.strip.words c.args.strip.start c.args.strip.width c.args.wanted c.args.level c.args.known.now c.args.factors.now c.args.sources.now
    c.put_known.new.runs c.restore.new.buffer c.derive.new.buffer c.evaluate.new.buffer c.args.targets.now c.take_wanted.new.regions
    record {
      few = c.requires.level;
      distinct = c.requires.distinct;
      below = λ k l. c.requires.below k 0 l;
      enough = c.requires.enough;
      made = c.requires.factors;
      source_bytes = λ i. let b = c.type_inv.sources i in search rules;
      bytes = λ i. let b = c.restore.type_inv in search rules;
      put = c.put_known.ensures;
      restore = rw c.points.ensures.value at c.restore.ensures;
      derive = c.derive.ensures;
      evaluate = c.evaluate.ensures;
      take = c.take_wanted.ensures;
    }
