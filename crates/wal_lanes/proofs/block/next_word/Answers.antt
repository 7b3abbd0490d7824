use Rattle.wal_lanes.proofs.Common.{◌≡◌, ℕ, ◌+◌, ◌%◌, ◌∙◌, ap, sym, arith, slice_index, small_sigma0, small_sigma1, words_of}
use Rattle.wal_lanes.proofs.LaneLemmas.{sum_of, word_of, words_of_set}
use Rattle.wal_lanes.proofs.block.next_word.Goals as goal

pub returns-clause-value : goal.returns-clause-value
returns-clause-value c k l =
    let w = c.args.w.now in
    let p = c.args.place in
    let at : p % 16 ≡ p = omega arith in
    sum_of _ _ c.sum-word.ensures
    (sum_of _ _ c.sum-2.ensures
    (sum_of _ _ c.sum.ensures (λ k l. c.small_sigma1-last.ensures.each k l ∙ ap small_sigma1 (sym (word_of w ((p + 14) % 16) k))) (λ k l. sym (word_of w ((p + 9) % 16) k)))
    (λ k l. c.small_sigma0-first.ensures.each k l ∙ ap small_sigma0 (sym (word_of w ((p + 1) % 16) k))))
    (λ k l. sym (word_of w p k) ∙ ap (λ (n : ℕ). slice_index (words_of w k) n) (sym at)) k l

pub returns-clause-window : goal.returns-clause-window
returns-clause-window c k l = words_of_set c.args.w.now c.args.place k _
