-- The room that is told suffices.
use Rattle.walrus_c.proofs.Common.{◌≡◌, ℕ, ◌<◌, List, length, arith, le_refl, Task, Whole, Identify, Encode, Check, Verify, IsTask, IsRow, encode, verify, command_of, InRange, IsRoom, Suffices, no_memory_told, room_of}
use Rattle.wal_words.proofs.Rows.{one_task}
use Rattle.wal_words.specs.declared.task.Task.TheVariants.{Read}
use Rattle.walrus_c.specs.Room.{asked, no_memory, no_words, nothing_asked}
use Rattle.walrus_c.proofs.Calls.{HasRoom, end_short}
use Rattle.walrus_c.proofs.Encodings.{encoded}
use Rattle.walrus_c.proofs.Lines.{checked, identified, verified}
use Rattle.walrus_c.proofs.ReadTexts.{was_read}
use Rattle.walrus_c.proofs.Splits.{one_split}

ranged : {options : _} {values : List (List ℕ)} {task : Task} → IsRow options values task → InRange task
ranged (encode word f is) = (is.1, is.2)
ranged (verify word place beacon amount audit is) = is.symbol_count.2
ranged other = tt

-- the numbers of a task that words ask for are in range
pub in_range : {words : List (List ℕ)} {task : Task} → IsTask words task → InRange task
in_range asks = ranged asks.asks.row

module _ (digest : List ℕ → List ℕ) (size_is : (text : List ℕ) → length (digest text) ≡ 32) where
  -- EACH TASK for which a room is given
  has_room : (task : Task) (input : List ℕ) → InRange task → room_of task (length input) < no_memory_told
      → HasRoom digest (command_of digest task) input (room_of task (length input))
  has_room (Whole (Identify f format)) input range given =
      record { least = omega arith; lines = tt; tells = λ within. identified digest size_is f format input }
  has_room (Whole (Check id)) input range given =
      record { least = omega arith; lines = (omega arith, omega arith); tells = λ within. checked digest id input }
  has_room (Whole (Verify a)) input range given =
      record { least = omega arith; lines = (omega arith, omega arith); tells = verified digest a input range }
  has_room (Whole (Encode f format)) input range given =
      record { least = omega arith; lines = tt; tells = encoded digest size_is f format input range }
  has_room (Read id) input range given =
      record { least = omega arith; lines = (omega arith, omega arith); tells = λ within. was_read digest size_is id input }
  has_room other input range given = absurd (omega (arith, given))

  -- WHAT IS TOLD SUFFICES, since a text is words in one way, and words ask for one task
  pub suffices : {text_of_words : List ℕ} {count told : ℕ} → IsRoom text_of_words count told
      → Suffices digest text_of_words count told
  suffices {text_of_words = t} (asked words are task is) given others same input counted status text comes =
      let here : IsTask others task = rw (one_split words others t are same) at is in
      let has = rw counted at (has_room task input (in_range is) (rw counted given)) in
      end_short digest size_is others input comes.rest comes.before text _
      (λ other asks. rw (one_task others other task asks here) has) (λ none. absurd (none task here)) status comes.ends
  suffices {text_of_words = t} (nothing_asked words are none) given others same input counted status text comes =
      let nothing_here = rw (one_split words others t are same) at none in
      end_short digest size_is others input comes.rest comes.before text _
      (λ other asks. absurd (nothing_here other asks)) (λ also. le_refl _) status comes.ends
  suffices (no_words none) given others same input counted status text comes = absurd (omega (arith, given))
  suffices no_memory given others same input counted status text comes = absurd (omega (arith, given))
