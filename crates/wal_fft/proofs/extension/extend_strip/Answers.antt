use Rattle.wal_fft.proofs.Common.{rules, arith, pow_mono}
use Rattle.wal_fft.proofs.StripLaws.{strip_codewords}
use Rattle.wal_fft.proofs.extension.extend_strip.Goals as goal

pub restore-requires-clause-points : goal.restore-requires-clause-points
restore-requires-clause-points c = omega (arith, pow_mono c.requires.level)

pub evaluate-requires-clause-points : goal.evaluate-requires-clause-points
evaluate-requires-clause-points c = omega (arith, pow_mono c.requires.level)

pub returns : goal.returns
returns c =
    strip_codewords c.args.strip.words c.args.strip.start c.args.strip.width c.args.known c.args.total c.args.level c.args.regions.now
    c.gather.new.runs c.restore.new.buffer c.evaluate.new.buffer c.scatter.new.regions
    record {
      level_few = c.requires.level;
      few = omega (arith, c.requires.enough, pow_mono c.requires.level);
      enough = c.requires.enough;
      within = c.requires.within;
      bytes = λ i. let b = c.restore.type_inv in search rules;
      gather = c.gather.ensures;
      restore = c.restore.ensures;
      evaluate = c.evaluate.ensures;
      scatter = c.scatter.ensures;
    }
