-- The command that answers requests for ranges of blobs, by the replies among the payloads before
-- them.
use Rattle.std.specs.Prelude.{◌≡◌, ℕ, Bool, true, false, List, [], ◌∷◌, ◌++◌, codes, cond}
use Rattle.std.specs.List.{AllByRecursion, flat_map}
use Rattle.wal_shape.specs.declared.text.MetaClash.{MetaClash}
use Rattle.wal_event.specs.Report.{hex_text}
use Rattle.wal_gateway.specs.declared.answer.Found.{Found}
use Rattle.wal_gateway.specs.declared.answer.Found.TheVariants.{Range, OutOfRange, Reject, Short}
use Rattle.wal_gateway.specs.declared.answer.Found.TheVariants.{NoMetadata, Collision}
use Rattle.wal_gateway.specs.declared.answer.GetAnswer.{GetAnswer}
use Rattle.wal_gateway.specs.Getting.{AnswersAll, Cache, Get}
use Rattle.wal_gateway.specs.Requests.{gets_in, no_blobs}
use Rattle.wal_run.specs.Command.{Command, bare, envelopes}
use Rattle.wal_run.specs.Lines.{collision_text, number_text, short_text}

-- what was found
abbrev pub found_text : Found → List ℕ
found_text (Range bytes) = codes "range " ++ hex_text bytes ++ codes "\n"
found_text (OutOfRange length) = number_text (codes "out of range ") length
found_text Reject = codes "reject\n"
found_text (Short have need) = short_text have need
found_text NoMetadata = codes "no metadata\n"
found_text (Collision clash) = collision_text clash.left clash.right

-- whether what was found is two texts of one digest
abbrev pub is_collision : Found → Bool
is_collision (Range bytes) = false
is_collision (OutOfRange length) = false
is_collision Reject = false
is_collision (Short have need) = false
is_collision NoMetadata = false
is_collision (Collision clash) = true

-- whether the blob was kept, and what was found; a collision is told alone
abbrev pub answer_text : GetAnswer → List ℕ
answer_text answer =
    cond (is_collision answer.found) (found_text answer.found)
    (cond answer.hit (codes "hit ") (codes "miss ") ++ found_text answer.found)

-- the lines of some answers, one after the other
abbrev pub answers_text : List GetAnswer → List ℕ
answers_text answers = flat_map answer_text answers

-- none of them is a collision
abbrev pub GoOn : List GetAnswer → Type 0
GoOn answers = AllByRecursion (λ answer. is_collision answer.found ≡ false) answers

-- the requests among the payloads are answered so, and none of the answers is a collision
abbrev pub AnswersRequests : (List ℕ → List ℕ) → ℕ → List (List ℕ) → List GetAnswer → Type 0
AnswersRequests digest capacity payloads answers =
    (kept : Cache) × AnswersAll digest (no_blobs capacity) (gets_in [] payloads) answers kept
    × GoOn answers

-- the first requests among them are answered so, none of the answers is a collision, and these are
-- the gets of the others
pub record AnswersFirst (digest : List ℕ → List ℕ) (capacity : ℕ)
    (payloads : List (List ℕ)) (answers : List GetAnswer) (rest : List Get) : Type 0 where
  pub first : List Get
  pub parts : gets_in [] payloads ≡ first ++ rest
  pub kept : Cache
  pub answered : AnswersAll digest (no_blobs capacity) first answers kept
  pub others : GoOn answers

-- the first requests among them are answered so, up to one whose answer is a collision of these
-- texts
pub record StopsAt (digest : List ℕ → List ℕ) (capacity : ℕ) (payloads : List (List ℕ))
    (answers : List GetAnswer) (clash : MetaClash) : Type 0 where
  pub first : List Get
  pub rest : List Get
  pub parts : gets_in [] payloads ≡ first ++ rest
  pub last : GetAnswer
  pub collides : last.found ≡ Collision clash
  pub kept : Cache
  pub answered : AnswersAll digest (no_blobs capacity) first (answers ++ last ∷ []) kept
  pub others : GoOn answers

-- ---- the command
-- a line for each request, with a cache of so many blobs
abbrev pub fetching : (List ℕ → List ℕ) → ℕ → Command
fetching digest capacity = record (bare 134217728 envelopes) {
  -- the answers to all
  Succeeds = λ payloads text. (answers : List GetAnswer)
      × AnswersRequests digest capacity payloads answers × (text ≡ answers_text answers);
  -- those up to a collision, which is told behind them
  Collides = λ payloads left right front. (answers : List GetAnswer) × (clash : MetaClash)
      × StopsAt digest capacity payloads answers clash
      × (left ≡ clash.left) × (right ≡ clash.right) × (front ≡ answers_text answers);
  -- the whole lines of the first answers, none of which is a collision, if another request follows
  Leaves = λ payloads text. (answers : List GetAnswer) × (get : Get) × (rest : List Get)
      × AnswersFirst digest capacity payloads answers (get ∷ rest)
      × (text ≡ answers_text answers);
  -- the lines of the first answers, the last of which was being written
  Owes = λ payloads text. (answers : List GetAnswer) × (rest : List Get)
      × AnswersFirst digest capacity payloads answers rest × (text ≡ answers_text answers);
}
