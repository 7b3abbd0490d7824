use Rattle.wal_commit.proofs.Common.{◌≡◌, ◌*◌, ◌/◌, ◌∙◌, sym, ap, length, refl, arith, List, ℕ, shard_count, symbol_size, symbol_size-least, pieces, root_of, row_of}
use Rattle.wal_commit.proofs.LeafTables.{row_part, row_root, row_within}
use Rattle.wal_commit.proofs.leaves.row_root.Goals as goal

pub slice_bounds-root_of_leaves-end : goal.slice_bounds-root_of_leaves-end
slice_bounds-root_of_leaves-end g c =
    let long : length c.args.digests.now ≡ c.n.result * c.n.result * 32 = c.requires.long ∙ ap (λ n. n * n * 32) (sym c.n.ensures.value) in
    row_within c.n.result c.args.index c.args.digests.now long (omega (arith, c.n.ensures.value, c.requires.index))

pub returns : goal.returns
returns g c =
    λ e are.
    let shape = c.args.shape.now in
    let n = shard_count shape.f in
    let s = symbol_size shape.f shape.length in
    let digests = c.args.digests.now in
    let count : c.n.result ≡ n = c.n.ensures.value in
    c.root_of_leaves.ensures
    ∙ ap (λ (p : List ℕ). root_of g.H.Hash32.digest (pieces (length p / 32) 32 p))
    (row_part c.n.result c.args.index _ _ digests refl refl ∙ ap (λ z. row_of z 32 digests c.args.index) count)
    ∙ row_root g.H.Hash32.digest n s e digests c.args.index (omega (arith, (symbol_size-least shape.f shape.length).positive)) c.requires.index are
