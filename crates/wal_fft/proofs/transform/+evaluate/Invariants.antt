use Rattle.wal_fft.proofs.transform.+evaluate.Given as goal

abbrev pub decreases-evaluate : goal.decreases-evaluate
decreases-evaluate l = l.level
