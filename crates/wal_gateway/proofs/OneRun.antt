-- A get has one answer, but for the two texts of a collision, and so have gets one after the other.
use Rattle.wal_gateway.proofs.Common.{◌≡◌, ℕ, arith, List, Some, None, false, refl, sym, subst, ◌∙◌, IsOnlyOutcome, SameOutcome, Outcome, Found, GetAnswer, CheckedBlob, Cache, Get, Hits, Leaves, found_of, kept_blob, IsOnlyAnswer, SameGetAnswer, SameFound, [], ◌∷◌, Option, MatchOption, AnswersGet, AnswersAll, Misses, AreOnlyAnswers}
use Rattle.wal_gateway.specs.declared.answer.Found.TheVariants.{Collision}
use Rattle.wal_theorem.proofs.OneReading.{only_outcome}
use Rattle.wal_reader.specs.declared.outcome.Outcome.TheVariants as read

pub same_itself : (f : Found) → SameFound f f
same_itself (Collision clash) = tt
same_itself f = refl

-- an answer that is this one
same_answer : (other answer : GetAnswer) → other ≡ answer → SameGetAnswer other answer
same_answer other answer same = rw same (refl, same_itself answer.found)

-- one outcome, one find
same_found : (from size : ℕ) (a b : Outcome) → SameOutcome a b → SameFound (found_of from size a) (found_of from size b)
same_found from size a b same = grind (arith, same_itself)

module _ (digest : List ℕ → List ℕ) (old : Cache) (get : Get) where
  -- one outcome leaves one list
  left_along : (a b : Outcome) (x y : Cache) → a ≡ b → Leaves digest old get a x → Leaves digest old get b y → x ≡ y
  left_along a b x y same left right = one b x y (subst (λ (o : Outcome). Leaves digest old get o x) same left) right
    where
      one : (o : Outcome) (x y : Cache) → Leaves digest old get o x → Leaves digest old get o y → x ≡ y
      one (read.Bytes bytes) x y left right = cc (left.2, right.2, right.1.1 left.0 left.1.0)
      one o x y left right = left ∙ sym right

  same_left : (a b : Outcome) (x y : Cache) → SameOutcome a b → Leaves digest old get a x → Leaves digest old get b y → x ≡ y
  same_left (read.Collision clash) (read.Collision other) x y same left right = left ∙ sym right
  same_left a b x y same left right = left_along a b x y same left right

  -- where the identifier is in the list
  pub hit_only : (blob : CheckedBlob) (answer : GetAnswer) (new : Cache) → kept_blob old get.id ≡ Some blob → Hits old get blob answer new → IsOnlyAnswer digest old get answer new
  hit_only blob answer new kept hits other left answers =
      let also = rw kept at answers in
      (same_answer other answer (also.0 ∙ sym hits.0), also.1 ∙ sym hits.1)

  -- and where it is not
  pub miss_only : (outcome : Outcome) (answer : GetAnswer) (new : Cache) → kept_blob old get.id ≡ None → IsOnlyOutcome digest get.id.0 get.payloads outcome
      → answer ≡ record { hit = false; found = found_of get.from get.size outcome } → Leaves digest old get outcome new → IsOnlyAnswer digest old get answer new
  miss_only outcome answer new none only answer_is leaves other left answers =
      let also = rw none at answers in
      let same = only also.0 also.1 in (
        rw (answer_is, also.2) (refl, same_found get.from get.size also.0 outcome same),
        same_left also.0 outcome left new same also.3 leaves,
      )

-- ---- gets one after the other have one answer each, and leave one list

module _ (digest : List ℕ → List ℕ) where
  answer_only : (old new : Cache) (get : Get) (answer : GetAnswer) → AnswersGet digest old get answer new → IsOnlyAnswer digest old get answer new
  answer_only old new get answer answers = by (kept_blob old get.id) refl answers
    where
      by : (o : Option CheckedBlob) → kept_blob old get.id ≡ o → MatchOption o (Misses digest old get answer new) (λ blob. Hits old get blob answer new)
          → IsOnlyAnswer digest old get answer new
      by None none misses =
          miss_only digest old get misses.0 answer new none (only_outcome digest get.id.0 get.payloads misses.0 misses.1) misses.2 misses.3
      by (Some blob) kept hits = hit_only digest old get blob answer new kept hits

  pub answers_only : (start : Cache) (gets : List Get) (answers : List GetAnswer) (left : Cache) → AnswersAll digest start gets answers left
      → AreOnlyAnswers digest start gets answers left
  answers_only start [] [] left all [] also others = (tt, others ∙ sym all)
  answers_only start (get ∷ gets) (answer ∷ answers) left all (other ∷ rest) also others =
      let one = answer_only start all.0 get answer all.1 other others.0 others.1 in
      let more = answers_only all.0 gets answers left all.2 rest also (rw one.1 at others.2) in
      ((one.0, more.0), more.1)
  answers_only start gets answers left all rest also others = absurd (grind arith)
