use Rattle.wal_tree.proofs.Common.{◌≡◌, ◌*◌, ◌++◌, ℕ, length, refl, ◌∙◌, arith, length-append, parts_put, entry_of}
use Rattle.wal_tree.proofs.Columns.{entry_long}
use Rattle.wal_tree.proofs.stacks.interleave.Goals as goal

pub loop-row-preserved : goal.loop-row-preserved
loop-row-preserved c =
    let left = c.args.left.now in
    let right = c.args.right.now in
    let row = c.loop-row.row in
    let both = entry_of row left ++ entry_of row right in
    let long : length both ≡ 64 =
    omega (arith, length-append (entry_of row left) (entry_of row right), entry_long row left (omega (arith, c.requires.left)), entry_long row right (omega (arith, c.requires.right))) in
    record {
      long = c.put_pair.auto.pairs ∙ c.loop-row.invariant.long;
      pairs = parts_put 64 (λ (r : ℕ). entry_of r left ++ entry_of r right) c.loop-row.pairs c.put_pair.new.pairs both row (row * 64) refl
          c.put_pair.ensures refl long (omega (arith, c.loop-row.invariant.long)) c.loop-row.invariant.pairs;
    }
