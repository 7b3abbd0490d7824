use Rattle.wal_journal.proofs.Common.{rules, ◌+◌, refl, arith, length-drop}
use Rattle.wal_journal.proofs.HeldLaws.{too_short, no_head, too_long}
use Rattle.wal_journal.proofs.reading.read_record.Goals as goal

pub returns-then-left-lt39-clause-steps : goal.returns-then-left-lt39-clause-steps
returns-then-left-lt39-clause-steps g c =
    let left = length-drop (c.args.tail + 1) (g.D.Disk.now c.args.disk.now) in
    (refl, (search rules), too_short _ _ (omega (arith, left, c.requires.len, c.if-left-lt39.true)), refl)

pub returns-in_default-clause-steps : goal.returns-in_default-clause-steps
returns-in_default-clause-steps g c =
    let shown = rw c.gate_at.ensures.now at c.in_ok-head.ensures.value in
    let none = c.in_default.ensures.none refl in
    (refl, (search rules), no_head _ _ c.in_ok-head.head shown (search rules) (search rules) none, refl)

pub returns-then-left-head-clause-steps : goal.returns-then-left-head-clause-steps
returns-then-left-head-clause-steps g c =
    let shown = rw c.gate_at.ensures.now at c.in_ok-head.ensures.value in
    let left = length-drop (c.args.tail + 1) (g.D.Disk.now c.args.disk.now) in (
      refl,
      (search rules),
      too_long _ _ c.in_ok-head.head shown (search rules) (search rules)
          (omega (arith, left, c.requires.len, c.if-left-head.true)),
      refl,
    )
