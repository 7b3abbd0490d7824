use Rattle.wal_evidence.proofs.Common.{rules, ◌≡◌, ◌⊎◌, ℕ, List, IfOk-weaker, Verdict, CommitsMatrix, HasFalseSliver, IsJudgedBy}
use Rattle.wal_evidence.specs.declared.evidence.Verdict.TheVariants as told
use Rattle.wal_evidence.proofs.FalseSlivers.{true_or_false}
use Rattle.wal_evidence.proofs.judging.verdict.Goals as goal

pub returns-in-Slivers-clause-committed : goal.returns-in-Slivers-clause-committed
returns-in-Slivers-clause-committed g c =
    let digest = g.H.Hash32.digest in
    let m = c.args.e.now.metadata in
    let basis = c.args.e.now.basis in
    IfOk-weaker c.judge.result (λ v. (other : Verdict) → IsJudgedBy digest m basis other → other ≡ v)
    (λ v. (blob matrix : List ℕ) → CommitsMatrix digest m blob matrix → (v ≡ told.Bytes blob) ⊎ HasFalseSliver digest m matrix basis)
    (λ v one. true_or_false digest m basis v c.view-m.ensures.metadata c.requires.held one) (search rules)

pub returns-in-Proof-clause-committed : goal.returns-in-Proof-clause-committed
returns-in-Proof-clause-committed g c = λ blob matrix is.
    true_or_false g.H.Hash32.digest c.args.e.now.metadata c.args.e.now.basis told.Reject c.view-m.ensures.metadata
    c.requires.held (search rules) blob matrix is
