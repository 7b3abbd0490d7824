use Rattle.wal_pool.proofs.Common.{◌≡◌, ◌∙◌, refl, sym, arith, subst}
use Rattle.wal_pool.proofs.StateLaws.{Given, count-states-none, given_none, given_more, given_all, whole_free}
use Rattle.wal_pool.proofs.Pool.create.Goals as goal

pub invariant_of-pool : goal.invariant_of-pool
invariant_of-pool c =
    let region = c.in_ok-region.region.items in
    (sym c.in_ok-region.region.ok.0 ∙ c.in_ok-region.ensures.len, c.requires.most, refl, sym (count-states-none 4096 c.args.pages region))

pub loop-number-init : goal.loop-number-init
loop-number-init c = given_none 4096 c.args.pages c.in_ok-region.region.items

pub loop-number-preserved : goal.loop-number-preserved
loop-number-preserved c = given_more c.args.pages c.loop-number.number c.loop-number.pool c.link.new.self (omega arith) c.loop-number.invariant c.link.ensures.free

pub returns : goal.returns
returns c =
    let e : c.loop-number.number ≡ c.args.pages = omega arith in
    let free = given_all c.args.pages c.loop-number.pool (subst (λ n. Given c.args.pages n c.loop-number.pool) e c.loop-number.invariant) in
    record { free = free; pages = c.loop-number.invariant.long; whole = whole_free 4096 c.args.pages c.loop-number.pool free }
