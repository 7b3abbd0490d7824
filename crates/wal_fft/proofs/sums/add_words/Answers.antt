use Rattle.wal_fft.proofs.Lanes.{sum_from}
use Rattle.wal_fft.proofs.sums.add_words.Goals as goal

pub returns : goal.returns
returns c =
    sum_from (λ n. n) c.args.from c.args.target.now c.args.source.now c.add_region.new.dst c.requires.equal c.requires.within
    c.add_region.ensures.same_length c.add_region.ensures.words
