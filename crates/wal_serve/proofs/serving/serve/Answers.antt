use Rattle.wal_serve.proofs.Common.{rules, ServedState, AnswersRequest}
use Rattle.wal_serve.proofs.ServingLaws.{served_ends}
use Rattle.wal_serve.proofs.OneEnd.{one_serving}
use Rattle.wal_serve.proofs.OneTaken.{answers_once}
use Rattle.wal_serve.proofs.OneTable.{one_without_want}
use Rattle.wal_serve.proofs.KeptEpoch.{epoch_on, kept_epoch, owners_on}
use Rattle.wal_serve.proofs.NeverWants.{never_wants}
use Rattle.wal_serve.proofs.serving.serve.Goals as goal

pub returns-clause-ends : goal.returns-clause-ends
returns-clause-ends g c = served_ends ServedState (AnswersRequest g.H.Hash32.digest g.K.Keep.may_want) _ _ _ _ _ _ _ _ _ _ _ _ c.serve_in.ensures.served

pub returns-clause-only : goal.returns-clause-only
returns-clause-only g c = λ never input.
    one_serving (AnswersRequest g.H.Hash32.digest g.K.Keep.may_want) _ _ _ input (one_without_want g.H.Hash32.digest g.K.Keep.may_want never)

pub returns-clause-once : goal.returns-clause-once
returns-clause-once g c = λ never.
    answers_once (AnswersRequest g.H.Hash32.digest g.K.Keep.may_want) _ _ _ (one_without_want g.H.Hash32.digest g.K.Keep.may_want never)

pub returns-clause-never : goal.returns-clause-never
returns-clause-never g c = never_wants g.H.Hash32.digest g.K.Keep.may_want _ _ _

pub returns-clause-epoch : goal.returns-clause-epoch
returns-clause-epoch g c =
    let kept = kept_epoch g.H.Hash32.digest g.K.Keep.may_want _ _ _ _ _ _ _ _ _ _ c.serve_in.ensures.served.serves in
    let zero = epoch_on c.args.state.now.ledger.log c.new.result.state.now.ledger.log c.serve_in.new.self.state.now.ledger.log (search rules) kept c.requires.epoch in
    search (rules, zero)

pub returns-clause-owners : goal.returns-clause-owners
returns-clause-owners g c = λ s less.
    let kept = kept_epoch g.H.Hash32.digest g.K.Keep.may_want _ _ _ _ _ _ _ _ _ _ c.serve_in.ensures.served.serves in
    let own = owners_on c.args.state.now.ledger.log c.new.result.state.now.ledger.log c.serve_in.new.self.state.now.ledger.log c.args.shard.now.f c.serve_in.new.self.shard.now.f (search rules) kept (search rules) c.requires.owners s in
    search (rules, own, less)
