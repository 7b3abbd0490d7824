use Rattle.wal_fft.proofs.transform.+restore.Given as goal

abbrev pub decreases-restore : goal.decreases-restore
decreases-restore l = l.level
