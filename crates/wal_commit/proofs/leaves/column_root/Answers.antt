use Rattle.wal_commit.proofs.Common.{◌≡◌, ◌/◌, ◌∙◌, sym, ap, length, arith, List, ℕ, shard_count, symbol_size, symbol_size-least, pieces, root_of, column_of, column_is}
use Rattle.wal_commit.proofs.LeafTables.{column_root}
use Rattle.wal_commit.proofs.leaves.column_root.Goals as goal

pub returns : goal.returns
returns g c =
    λ e are.
    let shape = c.args.shape.now in
    let n = shard_count shape.f in
    let s = symbol_size shape.f shape.length in
    let digests = c.args.digests.now in
    let gathered : c.copy_column.new.into ≡ column_of n 32 digests c.args.index =
    c.copy_column.ensures ∙ sym (column_is c.n-count.result 32 digests c.args.index) ∙ ap (λ z. column_of z 32 digests c.args.index) c.n-count.ensures.value in
    c.root_of_leaves.ensures
    ∙ ap (λ (p : List ℕ). root_of g.H.Hash32.digest (pieces (length p / 32) 32 p)) gathered
    ∙ column_root g.H.Hash32.digest n s e digests c.args.index (omega (arith, (symbol_size-least shape.f shape.length).positive)) c.requires.index are
