-- A get has one answer; the two texts of a collision are not compared.
use Rattle.std.specs.Prelude.{◌≡◌, ℕ, List, [], ◌∷◌}
use Rattle.wal_gateway.specs.declared.answer.Found.{Found}
use Rattle.wal_gateway.specs.declared.answer.Found.TheVariants.{Collision}
use Rattle.wal_gateway.specs.declared.answer.GetAnswer.{GetAnswer}
use Rattle.wal_gateway.specs.Getting.{AnswersGet, AnswersAll, Cache, Get}

-- the same is found; the texts of two collisions are not compared
abbrev pub SameFound : Found → Found → Type 0
SameFound (Collision one) (Collision other) = Unit {0}
SameFound one other = one ≡ other

-- both are hits or both are misses, and the same is found
abbrev pub SameGetAnswer : GetAnswer → GetAnswer → Type 0
SameGetAnswer one other = (one.hit ≡ other.hit) × SameFound one.found other.found

-- as many answers, each the same
abbrev pub SameAnswers : List GetAnswer → List GetAnswer → Type 0
SameAnswers [] [] = Unit {0}
SameAnswers (one ∷ more) (other ∷ others) = SameGetAnswer one other × SameAnswers more others
SameAnswers [] (answer ∷ others) = ⊥
SameAnswers (answer ∷ more) [] = ⊥

-- a get has no other answer, and leaves no other list
abbrev pub IsOnlyAnswer : (List ℕ → List ℕ) → Cache → Get → GetAnswer → Cache → Type 0
IsOnlyAnswer digest old get answer new =
    (other : GetAnswer) (left : Cache) → AnswersGet digest old get other left
    → SameGetAnswer other answer × (left ≡ new)

-- the same for gets one after the other
abbrev pub AreOnlyAnswers : (List ℕ → List ℕ) → Cache → List Get → List GetAnswer → Cache → Type 0
AreOnlyAnswers digest old gets answers new =
    (others : List GetAnswer) (left : Cache) → AnswersAll digest old gets others left
    → SameAnswers others answers × (left ≡ new)
