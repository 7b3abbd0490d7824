use Rattle.wal_tree.proofs.Common.{◌≡◌, ◌*◌, ◌/◌, ℕ, List, length, ap, ◌∙◌, arith, pieces, root_of}
use Rattle.wal_tree.proofs.LevelPairs.{pieces-put}
use Rattle.wal_tree.proofs.pass.root_of_leaves_in_room.Goals as goal

pub returns : goal.returns
returns g c =
    let digests = c.args.digests.now in
    let count = length digests / 32 in
    let whole : length digests ≡ count * 32 = omega (arith, c.requires.whole) in
    c.root_above.ensures
    ∙ ap (λ (l : List ℕ). root_of g.H.Hash32.digest (pieces count 32 l)) c.put.ensures.put
    ∙ ap (root_of g.H.Hash32.digest) (pieces-put count _ digests whole)
