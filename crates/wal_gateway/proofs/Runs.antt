-- Lists of gets.
use Rattle.wal_gateway.proofs.Common.{◌≡◌, ℕ, List, [], ◌∷◌, ◌++◌, refl, ap, GetAnswer, AnswersGet, AnswersAll, Cache, Get, AreOnlyAnswers, IsOnlyAnswer, SameGetAnswer, SameAnswers}

module _ (digest : List ℕ → List ℕ) where
  -- one get more
  pub answered_more : (start : Cache) (gets : List Get) (answers : List GetAnswer) (old : Cache) (get : Get) (answer : GetAnswer) (new : Cache) → AnswersAll digest start gets answers old
      → AnswersGet digest old get answer new → AnswersAll digest start (gets ++ get ∷ []) (answers ++ answer ∷ []) new
  answered_more start [] [] old get answer new all one = (new, rw all at one, refl)
  answered_more start (g ∷ gets) (a ∷ answers) old get answer new all one = (all.0, all.1, answered_more all.0 gets answers old get answer new all.2 one)
  answered_more start gets answers old get answer new all one = absurd all

  -- the answers to gets and to one more are those to the gets, and one more
  record Parted (start : Cache) (gets : List Get) (get : Get) (others : List GetAnswer) (left : Cache) : Type 0 where
    front : List GetAnswer
    last : GetAnswer
    between : Cache
    are : others ≡ front ++ last ∷ []
    before : AnswersAll digest start gets front between
    one : AnswersGet digest between get last left

  parted : (start : Cache) (gets : List Get) (get : Get) (others : List GetAnswer) (left : Cache) → AnswersAll digest start (gets ++ get ∷ []) others left → Parted start gets get others left
  parted start [] get (first ∷ []) left all = record {
    front = [];
    last = first;
    between = start;
    are = refl;
    before = refl;
    one = rw all.2 all.1;
  }
  parted start [] get (first ∷ others) left all = absurd all.2
  parted start (g ∷ gets) get (first ∷ others) left all =
      let on = parted all.0 gets get others left all.2 in
      record {
        front = first ∷ on.front;
        last = on.last;
        between = on.between;
        are = ap (λ (l : List GetAnswer). first ∷ l) on.are;
        before = (all.0, all.1, on.before);
        one = on.one;
      }
  parted start gets get others left all = absurd all

  same_more : (others answers : List GetAnswer) (other answer : GetAnswer) → SameAnswers others answers → SameGetAnswer other answer
      → SameAnswers (others ++ other ∷ []) (answers ++ answer ∷ [])
  same_more [] [] other answer all one = (one, tt)
  same_more (o ∷ others) (a ∷ answers) other answer all one = (all.0, same_more others answers other answer all.1 one)
  same_more others answers other answer all one = absurd all

  -- with one more only answer, the answers of a run are the only ones
  pub only_more : (start : Cache) (gets : List Get) (answers : List GetAnswer) (old : Cache) (get : Get) (answer : GetAnswer) (new : Cache) → AreOnlyAnswers digest start gets answers old
      → IsOnlyAnswer digest old get answer new → AreOnlyAnswers digest start (gets ++ get ∷ []) (answers ++ answer ∷ []) new
  only_more start gets answers old get answer new all one others left answered =
      let p = parted start gets get others left answered in
      let same = all p.front p.between p.before in
      let last = one p.last left (rw same.1 at p.one) in
      (rw p.are (same_more p.front answers p.last answer same.0 last.0), last.1)
