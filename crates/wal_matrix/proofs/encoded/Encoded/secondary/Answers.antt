use Rattle.wal_matrix.proofs.Common.{rules, ◌≡◌, row_count, shard_count, symbol_size}
use Rattle.wal_matrix.proofs.Slivers.{secondary_is}
use Rattle.wal_matrix.proofs.encoded.Encoded.secondary.Goals as goal

pub returns : goal.returns
returns c =
    let cells : c.deref.result.now ≡ c.args.self.now.cells = search rules in
    let n : c.n-count.result ≡ shard_count c.args.self.now.shape.f = search rules in
    let s : c.symbol_size-size.result ≡ symbol_size c.args.self.now.shape.f c.args.self.now.shape.length = search rules in
    let r : c.rows-rows.result ≡ row_count c.args.self.now.shape.f = search rules in
    let is = secondary_is c.args.self.now.shape.f (symbol_size c.args.self.now.shape.f c.args.self.now.shape.length) c.args.self.now.cells c.args.j in
    let copied = c.copy_column.ensures in
    cc
