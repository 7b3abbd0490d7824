use Rattle.wal_matrix.proofs.Common.{rules, ◌≡◌, ℕ, ◌*◌, List, take, sym, ap₂, ◌∙◌, column_count, symbol_size}
use Rattle.wal_matrix.proofs.Slivers.{primary_is}
use Rattle.wal_matrix.proofs.encoded.Encoded.primary.Goals as goal

pub returns-clause-value : goal.returns-clause-value
returns-clause-value c =
    let m : c.cols.result ≡ column_count c.args.self.now.shape.f = search rules in
    let s : c.symbol_size.result ≡ symbol_size c.args.self.now.shape.f c.args.self.now.shape.length = search rules in
    let is = primary_is c.args.self.now.shape.f (symbol_size c.args.self.now.shape.f c.args.self.now.shape.length) c.args.self.now.cells c.args.i in
    let row = c.row.ensures.value in
    ap₂ (λ (k : ℕ) (r : List ℕ). take k r) (ap₂ (λ (x y : ℕ). x * y) m s) row ∙ sym is
