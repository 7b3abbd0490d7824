use Rattle.wal_lanes.proofs.Common.{◌≡◌, ℕ, ◌+◌, List, length, sym, ap, arith, get_or-replicate, digest_bytes, initial_hash_256, sha256, text}
use Rattle.wal_lanes.proofs.Blocks.{length-text, padded_after}
use Rattle.wal_lanes.proofs.texts.hash_lanes.Goals as goal

pub returns : goal.returns
unfolding sha256
returns c = λ k l.
    let m : List ℕ = text c.args.prefix c.args.size c.args.pieces.now k in
    let long : length m ≡ c.args.size + 1 = length-text c.args.prefix c.args.size c.args.pieces.now k c.args.lanes l c.requires.long in
    let first = get_or-replicate 8 k c.args.prefix 0 (omega arith) in
    let same = ap (λ (b : ℕ). text b c.args.size c.args.pieces.now k) first in
    ap (λ (h : List ℕ). digest_bytes h 8)
    (c.after_last_blocks.ensures k l m (sym same)
    (padded_after initial_hash_256 m _ _ _ c.args.size long (c.initial.ensures k (omega arith)) (c.after_whole_blocks-whole.ensures k l) same))
