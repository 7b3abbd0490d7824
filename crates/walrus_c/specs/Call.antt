-- WHAT A CALL OF THE LIBRARY RETURNS: the result of a run of the words over the input, and what
-- stands in the room.
use Rattle.std.specs.Prelude.{◌≡◌, ◌⊎◌, ℕ, ◌-◌, ◌^◌, ◌<◌, ◌≤◌, min, List, ◌++◌, length, take, drop}
use Rattle.std.specs.Prelude.{Some, Ok}
use Rattle.wal_port.specs.Faults.{Rose}
use Rattle.wal_event.specs.declared.event.Schedule.{Schedule}
use Rattle.wal_schedule.specs.Grammar.{IsRead}
use Rattle.wal_words.specs.declared.task.Task.TheVariants.{Whole}
use Rattle.wal_words.specs.declared.task.WholeTask.TheVariants.{Replay}
use Rattle.wal_words.specs.Task.{IsTask, NoTask}
use Rattle.wal_run.specs.Command.{most_input}
use Rattle.wal_run.specs.Around.{Around}
use Rattle.wal_run.specs.Answers.{Ends, IsAnswered}
use Rattle.wal_run.specs.Causes.{Causes, HasOneAnswer, IsExact}
use Rattle.wal_run.specs.Replaying.{IsReport}
use Rattle.walrus_c.specs.Words.{AreWords, AreNoWords}

-- what a run sees if it begins with this input, ends with this rest of it, and writes this text
-- behind what stood in its sink; its source and its sink have no fault, so both counts stay at 0
abbrev pub around : List ℕ → List ℕ → List ℕ → List ℕ → Around
around input rest before text = record {
  left = Some input;
  after = Some rest;
  SourceRose = Rose 0 0;
  old = Some before;
  new = Some (before ++ text);
  SinkRose = Rose 0 0;
}

-- the run of these words over this input ends with this status, and the text is what it writes
pub record Comes (digest : List ℕ → List ℕ) (words : List (List ℕ))
    (input : List ℕ) (status : ℕ) (text : List ℕ) : Type 0 where
  -- what is left of the input, and what stood in the sink, whatever it is
  pub rest : List ℕ
  pub before : List ℕ
  -- what was taken and written, and why the run ended
  pub ends : Ends digest words (around input rest before text) status
  -- THE HEADLINE: the text is the report of a safe run of the schedule, whatever faulty shards and
  -- writers send
  pub headline : (schedule : Schedule) → IsTask words (Whole Replay) → length input ≤ most_input
      → IsRead input (Ok schedule) → IsReport digest schedule status text
  -- what the status shows, by the table of causes
  pub causes : Causes digest words (around input rest before text) status
  -- whatever answer the words and the input have was told, or a prefix of it for want of memory
  pub exact : IsExact digest words (around input rest before text) status
  -- words that ask for nothing have the status of usage, but for want of memory
  pub nothing_asked : NoTask words → (status ≡ 2) ⊎ (status ≡ 5)
  -- the whole answer was written, or memory ran out
  pub complete : (status ≡ 5) ⊎ IsAnswered digest words (around input rest before text) status
  -- the words and an input have at most one answer
  pub only : HasOneAnswer digest words

-- the room begins with the text as far as it fits, and is otherwise unchanged; the numbers say how
-- many bytes of the text are there, and how many it has
pub record IsFilled (room new text : List ℕ) (written needed : ℕ) : Type 0 where
  pub front : new ≡ take (length room) text ++ drop (length text) room
  pub written_is : written ≡ min (length text) (length room)
  pub needed_is : needed ≡ min (length text) (2 ^ 64 - 1)

-- nothing is written into the room, and both numbers say so
pub record IsUntouched (room new : List ℕ) (written needed : ℕ) : Type 0 where
  pub same : new ≡ room
  pub written_is : written ≡ 0
  pub needed_is : needed ≡ 0

-- THE TABLE: what the call returns, by its status
pub data Returns (digest : List ℕ → List ℕ)
    (text_of_words input room new : List ℕ) (written needed : ℕ) : ℕ
    → Type 0 where
  -- the status of the run, whose whole text is in the room
  answered : (words : List (List ℕ)) → AreWords words text_of_words → (status : ℕ) (text : List ℕ)
      → Comes digest words input status text
      → IsFilled room new text written needed → length text ≤ length room
      → Returns digest text_of_words input room new written needed status
  -- 7: the text has more bytes than there is room for
  no_room : (words : List (List ℕ)) → AreWords words text_of_words → (status : ℕ) (text : List ℕ)
      → Comes digest words input status text
      → (status ≡ 5 → ⊥) → IsFilled room new text written needed → length room < length text
      → Returns digest text_of_words input room new written needed 7
  -- 5: memory ran out in the run, whose text is then a prefix of the answer, or before it
  no_memory : (words : List (List ℕ)) → AreWords words text_of_words → (text : List ℕ)
      → Comes digest words input 5 text
      → IsFilled room new text written needed
      → Returns digest text_of_words input room new written needed 5
  no_memory_for_words : IsUntouched room new written needed
      → Returns digest text_of_words input room new written needed 5
  -- 11: the text is no list of words
  no_words : AreNoWords text_of_words → IsUntouched room new written needed
      → Returns digest text_of_words input room new written needed 11
