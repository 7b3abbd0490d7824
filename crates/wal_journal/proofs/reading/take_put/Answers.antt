use Rattle.wal_journal.proofs.Common.{rules, refl, ◌∙◌, arith}
use Rattle.wal_journal.proofs.HeldLaws.{unlawful, put_step, put_full}
use Rattle.wal_journal.proofs.reading.take_put.Goals as goal

pub returns-then-is_held-clause-steps : goal.returns-then-is_held-clause-steps
returns-then-is_held-clause-steps g c = (
  refl,
  c.requires.gate,
  unlawful _ _ c.args.head c.args.id c.args.part c.requires.head (search rules)
      (omega (arith, c.requires.is.5)) c.requires.is.0 c.requires.is.1 c.requires.is.2
      (c.is_held.ensures.held c.if-is_held.true),
  refl,
)

pub returns-in-Ok-clause-steps : goal.returns-in-Ok-clause-steps
returns-in-Ok-clause-steps g c =
    put_step _ _ c.args.head c.args.id _ _ c.requires.gate c.requires.head
    (search rules) c.requires.within c.args.part c.deref.result.now
    c.requires.is (c.deref.ensures.value ∙ c.in_ok-bytes.ensures.value) _
    (search rules) c.in-Ok.ensures.stored c.in-Ok.ensures.answer

pub returns-clause-steps : goal.returns-clause-steps
returns-clause-steps g c =
    rw c.from.ensures (
    put_full _ _ c.args.head c.args.id _ _ c.requires.gate c.requires.head
    (search rules) c.requires.within c.args.part c.deref.result.now
    c.requires.is (c.deref.ensures.value ∙ c.in_ok-bytes.ensures.value) _ _ c.in-Err.error
    (search rules) c.in-Err.ensures.answer c.in-Err.ensures.refused
    )
