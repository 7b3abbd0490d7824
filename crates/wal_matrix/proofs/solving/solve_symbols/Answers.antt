use Rattle.wal_matrix.proofs.Common.{rules}
use Rattle.wal_matrix.proofs.Solved.{known_symbols, solved_is_word, solved_unique}
use Rattle.wal_matrix.proofs.solving.solve_symbols.Goals as goal

pub returns-clause-word : goal.returns-clause-word
returns-clause-word c =
    let are = known_symbols c.args.total c.args.size c.args.known.now c.args.loaded.now c.requires.few c.requires.even c.requires.filled
    c.requires.distinct c.requires.below c.requires.loaded (λ i. let fits = c.type_inv.loaded i in search rules) in
    solved_is_word c.args.total c.args.size c.args.known.now c.args.loaded.now are c.solve_first.new.targets record {
      size = search rules;
      bytes = λ i. let fits = c.type_inv.symbols i in search rules;
      sums = c.solve_first.ensures.sums;
    }

pub returns-clause-only : goal.returns-clause-only
returns-clause-only c =
    let are = known_symbols c.args.total c.args.size c.args.known.now c.args.loaded.now c.requires.few c.requires.even c.requires.filled
    c.requires.distinct c.requires.below c.requires.loaded (λ i. let fits = c.type_inv.loaded i in search rules) in
    λ other is. solved_unique c.args.total c.args.size c.args.known.now c.args.loaded.now are other c.solve_first.new.targets is (returns-clause-word c)
