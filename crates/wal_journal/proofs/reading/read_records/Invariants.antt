use Rattle.wal_journal.proofs.Common.{◌≡◌, ◌-◌, ◌≤◌, true, List, length, Call, no_contents, HadRoomForPuts, ReadTo, Still}
use Rattle.wal_journal.proofs.reading.read_records.Given as goal

-- the records of some changes end at the tail, the keep holds what they make, and nothing is written
abbrev pub invariant-records : goal.invariant-records
invariant-records g l = record {
  so_far :
      (changes : List Call) × ReadTo (g.D.Disk.now l.initial.disk) l.tail (g.K.Keep.contents l.keep) changes × HadRoomForPuts (g.K.Keep.limit l.initial.keep) no_contents changes;
  limit : g.K.Keep.limit l.keep ≡ g.K.Keep.limit l.initial.keep;
  now : g.D.Disk.now l.disk ≡ g.D.Disk.now l.initial.disk;
  len : l.len ≡ length (g.D.Disk.now l.initial.disk);
  still : g.D.Disk.tells ≡ true → Still g.D.Disk.now g.D.Disk.pending g.D.Disk.clock g.D.Disk.since l.initial.disk l.disk;
  later : g.D.Disk.faults l.initial.disk ≤ g.D.Disk.faults l.disk;
}

abbrev pub decreases-records : goal.decreases-records
decreases-records g l = l.len - l.tail
