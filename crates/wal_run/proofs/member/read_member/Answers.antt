use Rattle.wal_run.proofs.Common.{unbundling}
use Rattle.wal_run.proofs.Members.{member_as}
use Rattle.wal_run.proofs.Says.{broken, no_memory, passed, says_as}
use Rattle.wal_run.proofs.member.read_member.Goals as goal

pub returns-in_err-payloads : goal.returns-in_err-payloads
returns-in_err-payloads g c =
    passed _ _ _ c.from_residual.ensures.1
    (broken g.H.Hash32.digest (unbundling g.H.Hash32.digest c.args.id.now c.args.k) c.args.stream.now _ (λ text is. is) c.in_err-payloads.ensures.refusal)

pub returns-in_err-answer : goal.returns-in_err-answer
returns-in_err-answer g c = no_memory _ _ c.from_residual-in_err-answer.ensures.1

pub returns : goal.returns
returns g c =
    says_as _ _ _ c.member_answer.ensures (λ s text p. member_as g.H.Hash32.digest c.args.id.now c.args.k c.args.stream.now c.in_ok-payloads.payloads s text
    c.in_ok-payloads.ensures.payloads c.in_ok-answer.answer (rw c.from.ensures at c.in_ok-answer.ensures.told) p.0 p.1)
