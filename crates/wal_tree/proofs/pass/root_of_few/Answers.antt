use Rattle.wal_tree.proofs.Common.{◌≡◌, ◌*◌, ◌/◌, ℕ, length, take, ap, ◌∙◌, arith, length-take-le, pieces, root_of}
use Rattle.wal_tree.proofs.LevelPairs.{pieces-front}
use Rattle.wal_tree.proofs.pass.root_of_few.Goals as goal

pub returns : goal.returns
returns g c =
    let digest = g.H.Hash32.digest in
    let count = length c.args.content.now / c.args.size in
    let level = c.put_leaves.new.level in
    let long : length (take (count * 32) level) ≡ count * 32 = length-take-le (count * 32) level (omega (arith, c.put_leaves.ensures.room, c.requires.few)) in
    let counted : length (take (count * 32) level) / 32 ≡ count = omega (arith, long) in
    c.root_by_stack.ensures
    ∙ ap (λ (n : ℕ). root_of digest (pieces n 32 (take (count * 32) level))) counted
    ∙ ap (root_of digest) (pieces-front count 32 (count * 32) level (omega arith) ∙ c.put_leaves.ensures.leaves)
