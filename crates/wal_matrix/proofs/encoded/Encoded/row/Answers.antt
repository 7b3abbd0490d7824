use Rattle.wal_matrix.proofs.Common.{rules, ◌≡◌, ℕ, ◌*◌, length, arith, sym, ap, ap₂, ◌∙◌, shard_count, symbol_size}
use Rattle.wal_matrix.proofs.Slivers.{row_is, row_fits}
use Rattle.wal_matrix.proofs.encoded.Encoded.row.Goals as goal

pub region-requires : goal.region-requires
region-requires c =
    let long : length c.deref.result.now ≡ c.n.result * c.n.result * c.symbol_size.result =
    ap length c.deref.ensures.value ∙ c.self.invariant ∙ sym (ap₂ (λ (x y : ℕ). x * x * y) c.n.ensures.value c.symbol_size.ensures.value) in
    let n : c.n.result ≡ shard_count c.args.self.now.shape.f = search rules in
    row_fits c.n.result c.symbol_size.result c.deref.result.now c.args.i long (omega arith)

pub returns-clause-value : goal.returns-clause-value
returns-clause-value c =
    let cells : c.deref.result.now ≡ c.args.self.now.cells = search rules in
    let n : c.n.result ≡ shard_count c.args.self.now.shape.f = search rules in
    let s : c.symbol_size.result ≡ symbol_size c.args.self.now.shape.f c.args.self.now.shape.length = search rules in
    let is = row_is c.n.result c.symbol_size.result c.deref.result.now c.args.i in
    let run = c.region.ensures.run in
    cc
