use Rattle.wal_serve.proofs.Common.{◌≡◌, ◌++◌, ◌≤◌, length, refl, arith, length-take-le}
use Rattle.wal_serve.proofs.TakingLaws.{rose_since, took_whole, took_of, takes_past, front_long}
use Rattle.wal_serve.proofs.taking.fill.Goals as goal

pub returns-then-into-most-clause-takes : goal.returns-then-into-most-clause-takes
returns-then-into-most-clause-takes g c =
    let t = c.fill_all.ensures.takes in
    (t.0, took_of _ _ _ _ _ _ _ _ (omega arith) (omega (arith, c.if-into-most.true, c.fill_all.auto.into)) (λ is. refl) t.1, t.2)

pub returns-then-is_whole-clause-takes : goal.returns-then-is_whole-clause-takes
returns-then-is_whole-clause-takes g c =
    let most = c.args.most in
    let into = c.args.into.now in
    let sub = c.fill_all-took.new.into in
    let t = c.fill_all-took.ensures.takes in
    let p = c.past.ensures.takes in
    let le : most ≤ length into = omega (arith, c.if-into-most.false) in
    let all = took_whole _ _ _ _ _ _ _ (c.is_whole.ensures.whole c.if-is_whole.true) t.1 in
    let long = front_long most into sub c.fill_all-took.auto.into le in (
      t.0 ++ p.0,
      takes_past _ _ _ _ _ _ most _ t.0 p.0 all.0 (omega (arith, all.1, c.fill_all-took.auto.into, length-take-le most into le)) (omega (arith, long, c.if-into-most.false))
          (rose_since _ _ _ c.fill_all-took.ensures.later) p.1,
      λ is. (let whole = took_whole _ _ _ _ _ _ _ is p.1 in absurd (omega (arith, whole.2))),
    )

pub returns-else-is_whole-clause-takes : goal.returns-else-is_whole-clause-takes
returns-else-is_whole-clause-takes g c =
    let most = c.args.most in
    let into = c.args.into.now in
    let sub = c.fill_all-took.new.into in
    let t = c.fill_all-took.ensures.takes in
    let le : most ≤ length into = omega (arith, c.if-into-most.false) in
    let same : length sub ≡ most = omega (arith, c.fill_all-took.auto.into, length-take-le most into le) in
    let not = c.is_whole.ensures.other c.if-is_whole.false in
    let long = front_long most into sub c.fill_all-took.auto.into le in (
      t.0,
      took_of _ _ _ (length sub) _ most _ _ (omega (arith, same, long, le)) (omega (arith, same)) (λ is. absurd (not is)) t.1,
      λ is. absurd (not is),
    )
