use Rattle.wal_journal.proofs.Common.{sym, ◌∙◌}
use Rattle.wal_journal.proofs.Moments.{weaker, at_rest, after_run, holds_settled}
use Rattle.wal_journal.proofs.PackLaws.{puts_one, packs_put, front_none, front_one}
use Rattle.wal_journal.proofs.packing.pack_payload.Goals as goal

pub returns-in-None-clause-any_moment : goal.returns-in-None-clause-any_moment
returns-in-None-clause-any_moment g c = λ told changes accepts.
    at_rest (g.met.D.Disk.only_now told) (c.args.journal.settled told) (front_none _ accepts)

pub returns-else-is_taken-clause-any_moment : goal.returns-else-is_taken-clause-any_moment
returns-else-is_taken-clause-any_moment g c = λ told changes accepts.
    at_rest (g.met.D.Disk.only_now told) (c.args.journal.settled told) (front_none _ accepts)

pub returns-then-is_taken-clause-packs : goal.returns-then-is_taken-clause-packs
returns-then-is_taken-clause-packs g c =
    packs_put g.D.Disk.now g.D.Disk.faults g.K.Keep.contents g.K.Keep.limit g.K.Keep.may_want g.D.Disk.tells
    g.D.Disk.clock g.D.Disk.since
    c.in-Some.carried.id c.in-Some.carried.part c.in-Some.carried.bytes.now c.args.journal _ c.put.result
    (puts_one _ _ c.args.payload.now _ c.in-Some.ensures.is (sym c.is_taken.ensures ∙ c.if-is_taken.true))
    c.in-Some.ensures.id c.put.ensures.full c.put.ensures.room c.put.ensures.ends (λ told changes accepts.
    let only_now = g.met.D.Disk.only_now told in
    let held = holds_settled g.D.Disk.clock g.D.Disk.since only_now (c.args.journal.settled told) accepts in
    after_run (g.met.D.Disk.earlier told) (c.put.ensures.keeps told changes held))

pub returns-then-is_taken-clause-any_moment : goal.returns-then-is_taken-clause-any_moment
returns-then-is_taken-clause-any_moment g c = λ told changes accepts.
    let puts =
    puts_one g.H.Hash32.digest (g.K.Keep.contents c.args.journal.keep) c.args.payload.now _ c.in-Some.ensures.is
    (sym c.is_taken.ensures ∙ c.if-is_taken.true) in
    weaker (c.put.ensures.any_moment told changes accepts) (λ image fits. rw puts (front_one _ fits))
