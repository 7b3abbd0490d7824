-- WHAT A CODE SHOWS of the call that reported it: why it has no answer.
use Rattle.std.specs.Prelude.{◌≡◌, ℕ, ◌<◌, List, [], ◌∷◌, ◌++◌, length, take, ◌==◌, true}
use Rattle.std.specs.List.{list_any}
use Rattle.wal_tree.specs.Collision.{IsCollision}
use Rattle.wal_serve.specs.declared.serving.ServeEnd.TheVariants.{Malformed, TooLong}
use Rattle.wal_words.specs.declared.task.Task.{Task}
use Rattle.wal_words.specs.declared.task.Task.TheVariants.{Whole, Read}
use Rattle.wal_words.specs.declared.task.WholeTask.TheVariants.{Recover, Check, Image, Unpack}
use Rattle.wal_words.specs.declared.task.WholeTask.TheVariants.{Bundle, Member, Challenge, Verify}
use Rattle.wal_words.specs.Task.{IsTask, NoTask}
use Rattle.wal_run.specs.Around.{Around}
use Rattle.wal_run.specs.Causes.{ServesUntil}
use Rattle.wal_run.specs.Command.{Grammar, IsResult, IsTaken, IsTooLong}
use Rattle.wal_run.specs.Command.{envelopes, envelopes_of, schedule}
use Rattle.wal_run.specs.Commands.{command_of}
use Rattle.walrus_c.specs.Words.{AreNoWords, AreWords}
use Rattle.walrus_c.specs.Call.{Comes, Returns, around}

-- the codes of an input that is not spelled as the grammar says, or has no metadata
abbrev pub spelling_codes : Grammar → List ℕ
spelling_codes envelopes = 801 ∷ []
spelling_codes (envelopes_of id) = 401 ∷ 801 ∷ []
spelling_codes schedule = 802 ∷ 803 ∷ 804 ∷ 805 ∷ []
spelling_codes other = []

-- the codes of what the command of a task refuses besides
abbrev pub own_codes : Task → List ℕ
own_codes (Read id) = 301 ∷ 402 ∷ []
own_codes (Whole (Recover id axis index)) = 305 ∷ 402 ∷ []
own_codes (Whole (Check id)) = 302 ∷ 403 ∷ 404 ∷ 405 ∷ 406 ∷ 407 ∷ []
own_codes (Whole (Image size)) = 408 ∷ []
own_codes (Whole Unpack) = 801 ∷ []
own_codes (Whole (Bundle f)) = 409 ∷ 410 ∷ []
own_codes (Whole (Member id k)) = 303 ∷ 411 ∷ 412 ∷ []
own_codes (Whole (Challenge audit)) = 413 ∷ 414 ∷ 415 ∷ []
own_codes (Whole (Verify audit)) = 304 ∷ 413 ∷ 416 ∷ []
own_codes other = []

-- the code is one of a task's
abbrev pub HasCode : (List ℕ → List ℕ) → Task → ℕ → Type 0
HasCode digest task code =
    list_any (λ own. own == code)
    (spelling_codes (command_of digest task).grammar ++ own_codes task)
    ≡ true

-- the words ask for a task, whose command has this status and this text for the input that it took;
-- the code is one of the task's
pub record IsRefused (digest : List ℕ → List ℕ) (words : List (List ℕ))
    (streams : Around) (status : ℕ) (text : List ℕ) (code : ℕ) : Type 0 where
  pub asked : Task
  pub is_task : IsTask words asked
  pub input : List ℕ
  pub taken : IsTaken (command_of digest asked) streams.left streams.after input
  pub result : IsResult digest (command_of digest asked) input status text
  pub has_code : HasCode digest asked code

-- what the code of a run shows
pub data RunShows (digest : List ℕ → List ℕ) (words : List (List ℕ))
    (streams : Around) (status : ℕ) (text : List ℕ) : ℕ
    → Type 0 where
  -- 2: the words ask for nothing
  usage : NoTask words → RunShows digest words streams status text 201
  -- 3, 4 and 8: the record of the command says with this text what is false in the input, what it
  -- lacks, or where it cannot be read
  refused : (code : ℕ) → IsRefused digest words streams status text code
      → RunShows digest words streams status text code
  -- 8: the place where the requests to a shard are no stream
  broken_request : (place : ℕ) → ServesUntil digest words streams (Malformed place)
      → RunShows digest words streams status text 806
  -- 9: the input is longer than the limit
  too_long : (task : Task) → IsTask words task
      → IsTooLong (command_of digest task) streams.left streams.after
      → RunShows digest words streams status text 901
  too_long_serving : ServesUntil digest words streams TooLong
      → RunShows digest words streams status text 901
  -- 10: two texts with one digest
  collision : (left right : List ℕ) → IsCollision digest left right
      → RunShows digest words streams status text 1001

-- THE TABLE: what the code of a call shows
pub data Shows (digest : List ℕ → List ℕ)
    (text_of_words input room : List ℕ) (status : ℕ) (output : List ℕ) : ℕ
    → Type 0 where
  -- the run that wrote the output
  ended : (words : List (List ℕ)) → AreWords words text_of_words
      → (run : Comes digest words input status output) → (code : ℕ)
      → RunShows digest words (around input run.rest run.before output) status output code
      → Shows digest text_of_words input room status output code
  -- 5: memory ran out
  no_memory : Shows digest text_of_words input room status output 501
  -- 7: the text that a run wrote has more bytes than there is room for
  no_room : (words : List (List ℕ)) → AreWords words text_of_words → (own : ℕ) (text : List ℕ)
      → Comes digest words input own text → length room < length text
      → Shows digest text_of_words input room status output 701
  -- 11: the text is no list of words
  no_words : AreNoWords text_of_words → Shows digest text_of_words input room status output 1101

-- whatever call returned this status and wrote this output: unless the status is 0, the code shows
-- why
abbrev pub ShowsWhy : (List ℕ → List ℕ) → ℕ → List ℕ → ℕ → Type 0
ShowsWhy digest status output code =
    (text_of_words input room new : List ℕ) (written needed : ℕ)
    → Returns digest text_of_words input room new written needed status
    → output ≡ take written new → (status ≡ 0 → ⊥)
    → Shows digest text_of_words input room status output code
