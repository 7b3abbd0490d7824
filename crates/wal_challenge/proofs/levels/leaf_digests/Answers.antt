use Rattle.wal_challenge.proofs.Common.{◌≡◌, ◌/◌, List, ℕ, length, ap, ◌∙◌, take_at, pieces, leaves-pieces}
use Rattle.wal_challenge.proofs.levels.leaf_digests.Goals as goal

pub returns-clause-leaves : goal.returns-clause-leaves
returns-clause-leaves g c =
    let out = c.digest_pieces.new.out in
    let count = length c.args.content.now / c.args.size in
    let filled : length out ≡ c.in_ok-digests.digests.len = c.digest_pieces.auto.out ∙ c.deref_mut.ensures.len in
    ap (λ (v : List ℕ). pieces count 32 v) (take_at out _ _ filled)
    ∙ leaves-pieces g.H.Hash32.digest count c.args.size out c.args.content.now c.digest_pieces.ensures.each
