use Rattle.wal_tree.proofs.LevelPairs.{paired}
use Rattle.wal_tree.proofs.Common.{◌≡◌, ◌/◌, length, arith}
use Rattle.wal_tree.proofs.upwards.join_pairs.Goals as goal

pub returns-clause-joined : goal.returns-clause-joined
returns-clause-joined g c =
    let count : length c.args.level.now / 64 ≡ c.args.pairs = omega (arith, c.requires.level) in
    paired g.H.Hash32.digest c.args.pairs c.args.level.now c.digest_pieces.new.out (λ k l. c.digest_pieces.ensures.each k (omega arith))
