use Rattle.wal_journal.proofs.Common.{◌≡◌, ◌≤◌, true, List, take, Call, LeavesOnly, Keeps, Accepts, Takes, puts_of, AcceptsFront}
use Rattle.wal_journal.proofs.packing.pack.Given as goal

-- the puts of the payloads so far are made
abbrev pub invariant-loop-payload : goal.invariant-loop-payload
invariant-loop-payload g l = record {
  takes : Takes g.D.Disk.now g.K.Keep.contents g.K.Keep.limit l.initial.journal (puts_of g.H.Hash32.digest (g.K.Keep.contents l.initial.journal.keep) (take l.payload-index l.payload-items)) l.journal;
  run :
      g.D.Disk.tells ≡ true → (changes : List Call) → Accepts (g.D.Disk.now l.initial.journal.disk) changes
      → LeavesOnly g.D.Disk.clock g.D.Disk.since l.initial.journal.disk l.journal.disk (AcceptsFront (g.K.Keep.limit l.initial.journal.keep) (g.K.Keep.contents l.initial.journal.keep) changes (puts_of g.H.Hash32.digest (g.K.Keep.contents l.initial.journal.keep) (take l.payload-index l.payload-items)));
  keeps : g.D.Disk.tells ≡ true → Keeps g.D.Disk.clock g.D.Disk.since l.initial.journal.disk l.journal.disk;
  later : g.D.Disk.faults l.initial.journal.disk ≤ g.D.Disk.faults l.journal.disk;
}
