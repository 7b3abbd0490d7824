use Rattle.wal_matrix.proofs.Common.{rules, ◌≡◌, arith}
use Rattle.wal_matrix.proofs.Words.{word_unique}
use Rattle.wal_matrix.proofs.expansion.Expansion.fill.Goals as goal

pub returns-clause-only : goal.returns-clause-only
returns-clause-only c =
    let same : c.self.inside.f ≡ c.args.self.now.f = search rules in
    λ other is. word_unique c.args.axis c.args.self.now.f c.args.size c.args.sliver.now other
    c.fill_word.new.symbols.items (omega arith)
    c.requires.even c.requires.filled is (rw (c.known_count-known.ensures, same) at c.fill_word.ensures.word)
