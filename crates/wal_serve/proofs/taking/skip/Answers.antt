use Rattle.wal_serve.proofs.Common.{◌++◌, refl, arith}
use Rattle.wal_serve.proofs.TakingLaws.{rose_since, took_whole, took_of, takes_past}
use Rattle.wal_serve.proofs.taking.skip.Goals as goal

pub returns-then-size-most-clause-takes : goal.returns-then-size-most-clause-takes
returns-then-size-most-clause-takes g c =
    let t = c.skip_all.ensures.takes in
    (t.0, took_of _ _ _ _ _ _ _ _ (omega arith) c.if-size-most.true (λ is. refl) t.1)

pub returns-then-is_whole-clause-takes : goal.returns-then-is_whole-clause-takes
returns-then-is_whole-clause-takes g c =
    let t = c.skip_all-took.ensures.takes in
    let p = c.past.ensures.takes in
    let all = took_whole _ _ _ _ _ _ _ (c.is_whole.ensures.whole c.if-is_whole.true) t.1 in
    (t.0 ++ p.0, takes_past _ _ _ _ _ _ c.args.most _ t.0 p.0 all.0 all.1 c.if-size-most.false (rose_since _ _ _ c.skip_all-took.ensures.later) p.1)

pub returns-else-is_whole-clause-takes : goal.returns-else-is_whole-clause-takes
returns-else-is_whole-clause-takes g c =
    let t = c.skip_all-took.ensures.takes in
    let not = c.is_whole.ensures.other c.if-is_whole.false in
    (t.0, took_of _ _ _ c.args.most _ _ _ _ (omega (arith, c.if-size-most.false)) (omega arith) (λ is. absurd (not is)) t.1)
