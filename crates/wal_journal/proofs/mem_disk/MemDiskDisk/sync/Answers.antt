use Rattle.wal_journal.proofs.Common.{rules, ◌≡◌, ◌*◌, [], ◌∷◌, length, refl, arith, length-append, Synced}
use Rattle.wal_journal.proofs.Past.{pending_synced, elapses_step}
use Rattle.wal_journal.proofs.mem_disk.MemDiskDisk.sync.Goals as goal

pub returns-clause-told : goal.returns-clause-told
returns-clause-told c =
    λ told. rw c.keep.ensures.steps (
      pending_synced [] c.args.self.now.steps.items,
      omega (arith, length-append c.args.self.now.steps.items (Synced ∷ [])),
    )

pub returns-clause-time : goal.returns-clause-time
returns-clause-time c = λ told.
    let kept : length c.args.self.now.past.items ≡ length c.args.self.now.steps.items * length c.args.self.now.bytes.items = search (rules, c.args.self.now.kept) in
    rw (c.keep.ensures.steps, c.keep.ensures.past, c.deref.ensures.value)
    (elapses_step c.args.self.now.steps.items (Synced) _ _ c.args.self.now.bytes.items kept refl)
