use Rattle.wal_erasure.proofs.Common.{◌/◌, ◌<◌, slice_index, rules, arith}
use Rattle.wal_erasure.proofs.SolvedLaws.{all_solved}
use Rattle.wal_erasure.proofs.solution.solve_regions.Goals as goal

pub returns : goal.returns
returns c =
    all_solved (c.args.size / 2) c.args.wanted c.args.known.now c.args.sources.now c.args.targets.now c.solve_missing.new.targets c.copy_known.new.targets
    c.requires.distinct
    (λ k l. let b : slice_index c.args.known.now k < c.args.total = c.requires.below k 0 l in let few = c.requires.few in omega arith)
    (λ i. let b = c.type_inv.sources i in search rules)
    c.solve_missing.ensures c.copy_known.ensures c.args.size (omega (arith, c.requires.even))
