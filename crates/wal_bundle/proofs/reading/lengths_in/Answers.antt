use Rattle.wal_bundle.proofs.Common.{◌≡◌, [], ◌∷◌, ◌++◌, zero-add, rules, map-range_with_len_more, spelled_length, spelled_lengths}
use Rattle.wal_bundle.proofs.reading.lengths_in.Goals as goal

pub loop-k-init : goal.loop-k-init
unfolding spelled_lengths
loop-k-init c = search rules

pub loop-k-preserved : goal.loop-k-preserved
unfolding spelled_lengths
loop-k-preserved c =
    let more : c.push.new.self.items ≡ c.loop-k.lengths.items ++ c.length_in.result ∷ [] = search rules in
    rw (more, c.loop-k.invariant, c.length_in.ensures)
    (rw (map-range_with_len_more (spelled_length c.args.index.now) 0 c.loop-k.k c.loop-k.k (zero-add c.loop-k.k)))
