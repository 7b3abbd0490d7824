use Rattle.wal_lanes.proofs.Common.{◌≡◌, ℕ, List, ◌+◌, ◌*◌, ◌≤◌, ◌∷◌, length, slice_index, ap, sym, ◌∙◌, refl, arith, initial_hash_256, last_blocks, tail_length, text}
use Rattle.wal_lanes.proofs.Parts.{length-put_at, parts_put, piece_within}
use Rattle.wal_lanes.proofs.Blocks.{last_blocks_behind, last_one, last_two, length-last_blocks_of, length-text, tail_of_message}
use Rattle.wal_lanes.proofs.texts.after_last_blocks.Goals as goal

pub part-requires : goal.part-requires
part-requires c = piece_within c.each_tail.k c.args.lanes c.args.size _ (omega arith) c.requires.long

pub put_tail-requires-clause-room : goal.put_tail-requires-clause-room
put_tail-requires-clause-room c =
    let small : c.each_tail.k * c.tail_length-long.result + c.tail_length-long.result ≤ 8 * c.tail_length-long.result = piece_within c.each_tail.k 8 c.tail_length-long.result _ (omega arith) refl in
    let same : tail_length (length c.part.result.now + 1) ≡ c.tail_length-long.result = ap (λ (n : ℕ). tail_length (n + 1)) c.part.ensures.long ∙ sym c.tail_length-long.ensures in
    omega (arith, small, same, c.each_tail.invariant.0)

pub each_tail-preserved : goal.each_tail-preserved
each_tail-preserved c =
    let k = c.each_tail.k in
    let long = c.tail_length-long.result in
    let first = slice_index c.args.firsts.now k in
    let blocks : List ℕ = last_blocks c.args.seen (first ∷ c.part.result.now) in
    let wide : length blocks ≡ long =
    length-last_blocks_of c.args.seen first c.part.result.now c.args.size c.requires.edge c.part.ensures.long ∙ sym c.tail_length-long.ensures in
    let small : k * long + long ≤ 8 * long = piece_within k 8 long _ (omega arith) refl in (
      ap length c.put_tail.ensures ∙ length-put_at (k * long) c.each_tail.tails blocks (omega (arith, c.each_tail.invariant.0)) ∙ c.each_tail.invariant.0,
      parts_put long (λ (j : ℕ). last_blocks c.args.seen (text (slice_index c.args.firsts.now j) c.args.size c.args.pieces.now j)) c.each_tail.tails _ blocks k (k * long) refl c.put_tail.ensures
          (ap (λ (l : List ℕ). last_blocks c.args.seen (first ∷ l)) c.part.ensures.part) wide (omega (arith, c.each_tail.invariant.0)) c.each_tail.invariant.1,
    )

pub returns-then-long-eq-BLOCK : goal.returns-then-long-eq-BLOCK
returns-then-long-eq-BLOCK c = λ k l m is held.
    let rest : List ℕ = text (slice_index c.args.firsts.now k) c.args.size c.args.pieces.now k in
    let long : length rest ≡ c.args.size + 1 = length-text (slice_index c.args.firsts.now k) c.args.size c.args.pieces.now k c.args.lanes l c.requires.long in
    last_one initial_hash_256 m _ _ c.each_tail.tails (k * c.tail_length-long.result) (0 + k * c.tail_length-long.result) c.tail_length-long.result
    (c.tail_length-long.ensures ∙ tail_of_message c.args.seen m rest c.args.size c.requires.edge long is) (omega arith)
    (c.each_tail.invariant.1 k (omega arith) ∙ last_blocks_behind c.args.seen m rest c.requires.edge (omega arith) is) held (omega arith) (c.compress-after.ensures k (omega arith))

pub returns : goal.returns
returns c = λ k l m is held.
    let rest : List ℕ = text (slice_index c.args.firsts.now k) c.args.size c.args.pieces.now k in
    let long : length rest ≡ c.args.size + 1 = length-text (slice_index c.args.firsts.now k) c.args.size c.args.pieces.now k c.args.lanes l c.requires.long in
    last_two initial_hash_256 m _ _ _ c.each_tail.tails (k * c.tail_length-long.result) (0 + k * c.tail_length-long.result) (64 + k * c.tail_length-long.result) c.tail_length-long.result
    (c.tail_length-long.ensures ∙ tail_of_message c.args.seen m rest c.args.size c.requires.edge long is) (omega arith)
    (c.each_tail.invariant.1 k (omega arith) ∙ last_blocks_behind c.args.seen m rest c.requires.edge (omega arith) is) held (omega arith) (c.compress-after.ensures k (omega arith)) (omega arith) (c.compress.ensures k (omega arith))
