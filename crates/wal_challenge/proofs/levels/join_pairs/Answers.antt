use Rattle.wal_challenge.proofs.Common.{◌≡◌, ◌/◌, List, ℕ, length, ap, ◌∙◌, take_at, pieces, paired}
use Rattle.wal_challenge.proofs.levels.join_pairs.Goals as goal

pub returns-clause-joined : goal.returns-clause-joined
returns-clause-joined g c =
    let out = c.digest_pieces.new.out in
    let filled : length out ≡ c.in_ok-above.above.len = c.digest_pieces.auto.out ∙ c.deref_mut.ensures.len in
    ap (λ (v : List ℕ). pieces (length c.args.level.now / 64) 32 v) (take_at out _ _ filled)
    ∙ paired g.H.Hash32.digest (length c.args.level.now / 64) c.args.level.now out c.digest_pieces.ensures.each
