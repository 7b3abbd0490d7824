use Rattle.wal_matrix.proofs.Common.{rules, ℕ, List, subst, row_count, shard_count, IsTurnedExtension}
use Rattle.wal_matrix.proofs.MatrixLaws.{extended_twice}
use Rattle.wal_matrix.proofs.blocks.extended_block.Goals as goal

pub returns : goal.returns
returns c =
    let f = c.args.f in
    let e = c.in_ok-cells.cells.items in
    let P : List ℕ → Type 0 = λ twin. IsTurnedExtension (shard_count f) (row_count f) (shard_count f) c.args.size twin e in
    extended_twice f c.args.size c.args.block.now c.in_ok-by_columns.by_columns.items e c.requires.few c.in_ok-by_columns.ensures.turned
    (subst P c.deref.ensures.value c.in_ok-cells.ensures.turned)
    (search rules)
    c.in_ok-cells.ensures.bytes
