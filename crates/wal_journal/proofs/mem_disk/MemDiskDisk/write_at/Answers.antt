use Rattle.wal_journal.proofs.Common.{rules, ◌≡◌, ◌*◌, [], ◌∷◌, length, ap, ◌∙◌, arith, length-append, Written}
use Rattle.wal_journal.proofs.Moments.{length-put}
use Rattle.wal_journal.proofs.Past.{pending_push, elapses_step}
use Rattle.wal_journal.proofs.mem_disk.MemDiskDisk.write_at.Goals as goal

pub returns-clause-told : goal.returns-clause-told
returns-clause-told c =
    λ told. rw c.keep.ensures.steps (
      pending_push [] c.args.self.now.steps.items c.args.at (length c.args.bytes.now),
      omega (arith, length-append c.args.self.now.steps.items (Written c.args.at (length c.args.bytes.now) ∷ [])),
    )

pub returns-clause-time : goal.returns-clause-time
returns-clause-time c = λ told.
    let kept : length c.args.self.now.past.items ≡ length c.args.self.now.steps.items * length c.args.self.now.bytes.items = search (rules, c.args.self.now.kept) in
    let put = ap length c.overwrite.ensures.put
    ∙ length-put c.args.at c.args.bytes.now c.args.self.now.bytes.items c.requires in
    rw (c.keep.ensures.steps, c.keep.ensures.past, c.deref.ensures.value)
    (elapses_step c.args.self.now.steps.items (Written c.args.at (length c.args.bytes.now)) _ _ _ kept put)
