use Rattle.wal_pool.proofs.Common.{◌≡◌, ◌+◌, ◌-◌, ◌*◌, ap, arith, take, drop, page_of}
use Rattle.wal_pool.proofs.page_in.Goals as goal

pub returns-clause-value : goal.returns-clause-value
unfolding page_of
returns-clause-value c =
    let size : 4096 * c.args.number + 4096 - 4096 * c.args.number ≡ 4096 = omega arith in
    ap (λ n. take n (drop (4096 * c.args.number) c.args.region.now)) size
