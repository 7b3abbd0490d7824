use Rattle.wal_fft.proofs.Common.{◌+◌, ◌/◌, arith}
use Rattle.wal_fft.proofs.StripLaws.{strips_more, all_codewords, first_same}
use Rattle.wal_fft.proofs.extension.extend_regions.Goals as goal

pub loop-start-preserved : goal.loop-start-preserved
loop-start-preserved c = (
  omega (arith, c.strip_width-width.ensures),
  strips_more (c.args.size / 2) c.loop-start.start (c.loop-start.start + c.strip_width-width.result) c.args.known c.args.total c.args.buffer.now
      c.loop-start.buffer c.extend_strip.new.regions c.loop-start.invariant.1 c.extend_strip.ensures,
)

pub returns-clause-same : goal.returns-clause-same
returns-clause-same c =
    first_same (c.args.size / 2) c.loop-start.start c.args.known c.args.total c.args.size c.args.buffer.now c.loop-start.buffer
    (omega (arith, c.requires.even)) c.requires.fewer c.requires.regions c.loop-start.auto.buffer c.loop-start.invariant.1

pub returns-clause-codeword : goal.returns-clause-codeword
returns-clause-codeword c =
    all_codewords (c.args.size / 2) c.loop-start.start c.args.known c.args.total c.args.size c.args.buffer.now c.loop-start.buffer
    (omega arith) (omega (arith, c.requires.even)) c.loop-start.invariant.1
