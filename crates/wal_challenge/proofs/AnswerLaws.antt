-- What a shard answers to a draw is one opening, and it holds.
use Rattle.wal_challenge.proofs.Common.{◌≡◌, ℕ, ◌+◌, ◌<◌, ◌≤◌, List, [], ◌∷◌, ◌++◌, length, length-append, Some, Result, Ok, Err, IfOk, slice_get, sym, ap, ◌∙◌, arith, slice_get_within, region, Axis, Opening, crossing, shard_count, symbol_size, BlobMetadata, held_index, path_over, HoldsOpening, HoldsSliver, identifier_of, honest_opening, one_opening, Draw, AreAnswers, AreWordsOf, HoldsBoth, OwnWords, ShowsDrawn, among, draw_of, drawn_index}
use Rattle.std.proofs.Math.Nat.{mod-lt}
use Rattle.wal_matrix.specs.Word.{IsWordOf}
use Rattle.wal_challenge.specs.Draw.{draw_in, draw_text, drawn}
use Rattle.wal_challenge.proofs.Lists.{each_more, one_list}

-- what is a fact on both is one on either
pub of_either : {A : Type 0} (P : A → Type 0) (axis : Axis) (x y : A) → P x → P y → P (among axis x y)
of_either P axis x y of_x of_y = grind arith

-- a part of either
pub part_of_either : {A B : Type 0} (part : A → B) (axis : Axis) (x y : A) → part (among axis x y) ≡ among axis (part x) (part y)
part_of_either part axis x y = grind arith

word_among : (m : BlobMetadata) (axis : Axis) (primary secondary : List ℕ) (words : OwnWords) → AreWordsOf m primary secondary words
    → IsWordOf (crossing (crossing axis)) m.f (symbol_size m.f m.length) (among axis primary secondary) (among axis words.row words.column)
word_among m axis primary secondary words are = grind arith

-- the symbol at the drawn place of the codeword, with its path, is what was drawn, of an opening that was made
pub shows_if : {E : Type 0} (r : Result Opening E) (digest : List ℕ → List ℕ) (m : BlobMetadata) (shard : ℕ) (draw : Draw) (words : OwnWords) (size : ℕ) (line : List ℕ)
    → size ≡ words.size → line ≡ among draw.axis words.row words.column → IfOk r (λ o. o.cross ≡ drawn_index m shard draw)
    → IfOk r (λ o. o.symbol ≡ region size line draw.place) → IfOk r (λ o. o.path ≡ path_over digest size line draw.place)
    → IfOk r (λ o. (primary secondary : List ℕ) → AreWordsOf m primary secondary words → ShowsDrawn digest m shard primary secondary draw o)
shows_if (Err e) digest m shard draw words size line size_is line_is cross symbol path = tt
shows_if (Ok o) digest m shard draw words size line size_is line_is cross symbol path =
    λ primary secondary are.
    record {
      cross = cross;
      opens = record {
        word = among draw.axis words.row words.column;
        is_word = word_among m draw.axis primary secondary words are;
        symbol = cc (symbol, size_is, line_is, are.size);
        path = cc (path, size_is, line_is, are.size);
      };
    }

held_among : (digest : List ℕ → List ℕ) (m : BlobMetadata) (shard : ℕ) (axis : Axis) (primary secondary : List ℕ) → HoldsBoth digest m shard primary secondary
    → HoldsSliver digest m (crossing (crossing axis)) (held_index m.format m.f axis shard) (among axis primary secondary)
held_among digest m shard axis primary secondary holds = grind arith

-- a draw is of a place below n
pub place_within : (n : ℕ) (digits : List ℕ) → 0 < n → (draw_in n digits).place < n
place_within n digits some = mod-lt _ some

-- what was drawn is an opening that holds
pub shown_holds : (digest : List ℕ → List ℕ) (size_is : (text : List ℕ) → length (digest text) ≡ 32) (m : BlobMetadata) (shard : ℕ) (primary secondary : List ℕ) (draw : Draw) (o : Opening)
    → m.f ≤ 333 → draw.place < shard_count m.f → HoldsBoth digest m shard primary secondary → ShowsDrawn digest m shard primary secondary draw o
    → HoldsOpening digest m (crossing draw.axis) draw.place o
shown_holds digest size_is m shard primary secondary draw o few within holds is =
    let sliver = among draw.axis primary secondary in
    honest_opening digest size_is m (crossing draw.axis) draw.place sliver o few within
    (rw is.cross (held_among digest m shard draw.axis primary secondary holds)) is.opens

-- there is one such opening
pub one_shown : (digest : List ℕ → List ℕ) (m : BlobMetadata) (shard : ℕ) (primary secondary : List ℕ) (draw : Draw) (o p : Opening) → m.f ≤ 333
    → ShowsDrawn digest m shard primary secondary draw o → ShowsDrawn digest m shard primary secondary draw p → o ≡ p
one_shown digest m shard primary secondary draw o p few of_o of_p =
    let cross : o.cross ≡ p.cross = of_o.cross ∙ sym of_p.cross in
    let both = one_opening digest m (crossing draw.axis) draw.place (among draw.axis primary secondary) o p few of_o.opens of_p.opens in
    let symbol : o.symbol ≡ p.symbol = both.0 in
    let path : o.path ≡ p.path = both.1 in
    (λ i. record { cross = cross i; symbol = symbol i; path = path i })

-- and one list of answers
pub one_answer : (digest : List ℕ → List ℕ) (m : BlobMetadata) (beacon : List ℕ) (shard count : ℕ) (primary secondary : List ℕ) (a b : List Opening) → m.f ≤ 333
    → AreAnswers digest m beacon shard count primary secondary a → AreAnswers digest m beacon shard count primary secondary b → a ≡ b
one_answer digest m beacon shard count primary secondary a b few of_a of_b =
    one_list (λ d o. ShowsDrawn digest m shard primary secondary (draw_of digest m beacon shard d) o) a b (of_a.many ∙ sym of_b.many)
    (λ d o p. one_shown digest m shard primary secondary (draw_of digest m beacon shard d) o p few) of_a.each of_b.each

-- one answer more
pub answers_more : (digest : List ℕ → List ℕ) (m : BlobMetadata) (beacon : List ℕ) (shard d : ℕ) (primary secondary : List ℕ) (old new : List Opening) (o : Opening) (draw : Draw)
    → AreAnswers digest m beacon shard d primary secondary old → draw ≡ draw_of digest m beacon shard d → ShowsDrawn digest m shard primary secondary draw o
    → new ≡ old ++ o ∷ [] → AreAnswers digest m beacon shard (d + 1) primary secondary new
answers_more digest m beacon shard d primary secondary old new o draw before draw_is shown pushed =
    rw pushed
    (record {
      many = omega (arith, length-append old (o ∷ []), before.many);
      each =
          each_more (λ k x. ShowsDrawn digest m shard primary secondary (draw_of digest m beacon shard k) x) old o
          before.each (rw (before.many, ← draw_is) shown);
    })

-- no draw, no answer
pub answers_none : (digest : List ℕ → List ℕ) (m : BlobMetadata) (beacon : List ℕ) (shard : ℕ) (primary secondary : List ℕ) (os : List Opening) → os ≡ []
    → AreAnswers digest m beacon shard 0 primary secondary os
answers_none digest m beacon shard primary secondary os none =
    record {
      many = ap length none;
      each = λ d o there. absurd (omega (arith, ap length none, slice_get_within os d o there));
    }

-- the draw of an identifier and a number of shards that are the metadata's
pub same_draw : (digest : List ℕ → List ℕ) (m : BlobMetadata) (beacon id : List ℕ) (n shard d : ℕ) (draw : Draw) → draw ≡ drawn digest beacon id n shard d
    → id ≡ identifier_of digest m → n ≡ shard_count m.f → draw ≡ draw_of digest m beacon shard d
same_draw digest m beacon id n shard d draw is id_is n_is =
    cc (is, id_is, n_is)

-- each answer holds
pub answer_holds : (digest : List ℕ → List ℕ) (size_is : (text : List ℕ) → length (digest text) ≡ 32) (m : BlobMetadata) (beacon : List ℕ) (shard count : ℕ) (primary secondary : List ℕ) (openings : List Opening)
    → m.f ≤ 333 → HoldsBoth digest m shard primary secondary → AreAnswers digest m beacon shard count primary secondary openings
    → (d : ℕ) (o : Opening) → slice_get openings d ≡ Some o
    → HoldsOpening digest m (crossing (draw_of digest m beacon shard d).axis) (draw_of digest m beacon shard d).place o
answer_holds digest size_is m beacon shard count primary secondary openings few holds are d o there =
    shown_holds digest size_is m shard primary secondary (draw_of digest m beacon shard d) o few
    (place_within (shard_count m.f) (digest (draw_text beacon (identifier_of digest m) shard d)) (omega arith)) holds (are.each d o there)
