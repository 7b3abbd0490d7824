use Rattle.wal_tree.proofs.Common.{◌≡◌, ◌+◌, ◌*◌, ◌++◌, List, ℕ, length, ap, ap₂, ◌∙◌, arith, put_at, put_put}
use Rattle.wal_tree.proofs.Columns.{entry_long}
use Rattle.wal_tree.proofs.stacks.put_pair.Goals as goal

pub put-requires : goal.put-requires
put-requires c = omega (arith, ap length c.piece_at.ensures, entry_long c.args.row c.args.left.now c.requires.left, c.requires.room)

pub put-requires-2 : goal.put-requires-2
put-requires-2 c =
    let left = entry_long c.args.row c.args.left.now c.requires.left in
    let right = entry_long c.args.row c.args.right.now c.requires.right in
    omega (arith, ap length c.piece_at.ensures, ap length c.piece_at-2.ensures, left, right, c.put.auto.out)

pub returns : goal.returns
returns c =
    let left = c.piece_at.result.now in
    let right = c.piece_at-2.result.now in
    let at = c.args.row * 64 in
    let long_left : length left ≡ 32 = ap length c.piece_at.ensures ∙ entry_long c.args.row c.args.left.now c.requires.left in
    let long_right : length right ≡ 32 = ap length c.piece_at-2.ensures ∙ entry_long c.args.row c.args.right.now c.requires.right in
    c.put-2.ensures.put
    ∙ put_put at (at + 32) c.args.pairs.now c.put.new.out left right c.put.ensures.put (omega arith) (omega (arith, c.requires.room))
    ∙ ap₂ (λ (a b : List ℕ). put_at at c.args.pairs.now (a ++ b)) c.piece_at.ensures c.piece_at-2.ensures
