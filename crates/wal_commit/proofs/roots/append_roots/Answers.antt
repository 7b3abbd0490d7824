use Rattle.wal_commit.proofs.Common.{◌≡◌, ◌+◌, ◌-◌, ◌*◌, ℕ, List, ◌++◌, take, drop, ap, append_assoc, arith, ◌∙◌, symbol_size-least}
use Rattle.wal_commit.proofs.Columns.{pair_is}
use Rattle.wal_commit.proofs.roots.append_roots.Goals as goal

pub returns : goal.returns
returns g c =
    λ e long seen.
    let shape = c.args.shape.now in
    let roots = c.args.roots.now in
    let row = c.root.result in
    let start = c.held_column.result * 32 in
    let column = take (start + 32 - start) (drop start roots) in
    let size : start + 32 - start ≡ 32 = omega arith in
    let two = (symbol_size-least shape.f shape.length).positive in
    c.in_ok-extend_from_slice-2.ensures.items
    ∙ ap (λ (ys : List ℕ). ys ++ column) c.in_ok-extend_from_slice.ensures.items
    ∙ append_assoc c.args.bytes.now.items row column
    ∙ ap (λ (ys : List ℕ). c.args.bytes.now.items ++ ys)
    (pair_is g.H.Hash32.digest g.met.H.Hash32.size shape e c.args.trees.now roots row column c.args.shard c.held_column.result (omega arith) long c.requires.shard
    c.held_column.ensures.within c.held_column.ensures.value c.root.ensures (ap (λ (k : ℕ). take k (drop start roots)) size) seen)
