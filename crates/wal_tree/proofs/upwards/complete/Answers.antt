use Rattle.wal_tree.proofs.Common.{◌≡◌, ℕ, suc, ◌+◌, ◌*◌, ◌/◌, ap, refl, ◌∙◌, arith, pair_up, pieces}
use Rattle.wal_tree.proofs.LevelPairs.{completed}
use Rattle.wal_tree.proofs.upwards.complete.Goals as goal

pub returns-clause-same : goal.returns-clause-same
returns-clause-same c digest =
    let width = c.args.width in
    let next : 2 * ((width + 1) / 2) ≡ suc width = omega (arith, c.if-width-eq0.false) in
    let odd : width ≡ 2 * (width / 2) + 1 = omega (arith, c.if-width-eq0.false) in
    ap (λ (n : ℕ). pair_up digest (pieces n 32 c.put.new.out)) next
    ∙ completed digest width (width / 2) (width * 32) c.args.level.now c.put.new.out odd refl c.put.ensures.put (omega arith)
