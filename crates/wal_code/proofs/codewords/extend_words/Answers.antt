-- The words are solved at the first places, and a list of words is extended in one way only.
use Rattle.wal_code.proofs.Common.{◌≡◌, ◌∙◌, ℕ, List, length, take, arith, length-take, get_or-take, ap, evaluate, ext_get_or, slice_index, sym, ◌<◌, get_or}
use Rattle.wal_code.proofs.Codes.{codeword_unique_first}
use Rattle.wal_code.proofs.codewords.extend_words.Goals as goal

pub returns-clause-extension : goal.returns-clause-extension
returns-clause-extension c =
    let count : ℕ = length c.args.words.now in
    let known : List ℕ = take count c.loop-place.point-items in
    let size : length known ≡ count = omega (arith, length-take count c.loop-place.point-items) in
    let own : (i : ℕ) → i < count → get_or known i 0 ≡ i =
    λ i l. get_or-take count c.loop-place.point-items i 0 l ∙ c.loop-place.invariant i (omega arith) in
    let found = c.solve_words.ensures.solved in
    record {
      size = omega arith;
      codeword = record {
        coefficients = found.0;
        few = omega (arith, size, found.1.few);
        words = found.1.words;
        values = λ i l. found.2 i (omega arith);
      };
      begins = λ i l.
          found.2 i (omega (arith, c.requires.room)) ∙ ap (evaluate found.0) (sym (own i l)) ∙
          found.1.there i (omega arith);
    }

pub returns-clause-only : goal.returns-clause-only
returns-clause-only c other h =
    let mine = returns-clause-extension c in
    ext_get_or 0 c.solve_words.new.out other (mine.size ∙ sym h.size)
    (λ i l.
    codeword_unique_first (length c.args.words.now) (length c.args.out.now) (slice_index c.solve_words.new.out)
    (slice_index other) c.requires.room (omega arith) mine.codeword h.codeword
    (λ j p. mine.begins j p ∙ sym (h.begins j p)) i (omega (arith, mine.size)))
