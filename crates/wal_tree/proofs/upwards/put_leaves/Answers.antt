use Rattle.wal_tree.proofs.Common.{◌/◌, length, ◌∙◌}
use Rattle.wal_tree.proofs.LevelPairs.{leaves-pieces, pieces-append}
use Rattle.wal_tree.proofs.upwards.put_leaves.Goals as goal

pub returns-clause-leaves : goal.returns-clause-leaves
returns-clause-leaves g c =
    let count = length c.args.content.now / c.args.size in
    pieces-append count c.digest_pieces.new.out _ c.digest_pieces.ensures.long
    ∙ leaves-pieces g.H.Hash32.digest count c.args.size c.digest_pieces.new.out c.args.content.now c.digest_pieces.ensures.each
