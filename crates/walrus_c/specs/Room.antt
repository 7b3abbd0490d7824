-- THE ROOM of a call: so many bytes suffice for whatever text a run of the words writes, by the
-- task and by how many bytes the input has.
use Rattle.std.specs.Prelude.{◌≡◌, ℕ, ◌*◌, ◌+◌, ◌-◌, ◌^◌, ◌<◌, ◌≤◌, min, max, List, length}
use Rattle.wal_shape.specs.declared.shape.Format.{Format}
use Rattle.wal_shape.specs.Shape.{column_count, most_bytes, row_count, shard_count, symbol_size}
use Rattle.wal_shape.specs.Spelling.{text_size}
use Rattle.wal_words.specs.declared.task.Task.{Task}
use Rattle.wal_words.specs.declared.task.Task.TheVariants.{Whole, Read}
use Rattle.wal_words.specs.declared.task.WholeTask.{WholeTask}
use Rattle.wal_words.specs.declared.task.WholeTask.TheVariants.{Identify, Encode, Check, Verify}
use Rattle.wal_words.specs.Task.{IsTask, NoTask}
use Rattle.wal_run.specs.Commands.{usage_text}
use Rattle.walrus_c.specs.Words.{AreWords, AreNoWords}
use Rattle.walrus_c.specs.Call.{Comes}

-- the number that says that no room is given
abbrev pub none_given : ℕ
none_given = 2 ^ 64 - 1

-- the number that says that memory ran out before the words were read
abbrev pub no_memory_told : ℕ
no_memory_told = 2 ^ 64 - 2

-- the bytes of an identifier's line
abbrev pub name_line : ℕ
name_line = 65

-- the most bytes of a line of a verdict, a refusal or two texts that collide, each of which has at
-- most 65 bytes
abbrev pub one_line : ℕ
one_line = 272

-- those of all envelopes of a blob: of the metadata, whose spelling has eight bytes before it, and
-- for each shard of its two slivers, each of which has 47 bytes before it
abbrev pub encoded_bytes : ℕ → Format → ℕ → ℕ
encoded_bytes f format length =
    8 + text_size format f
    + shard_count f
    * (94 + (column_count f * symbol_size f length + row_count f * symbol_size f length))

-- the most bytes of a blob that is read from so many bytes, and of the line that says why there is
-- none
abbrev pub read_most : ℕ → ℕ
read_most count = max (min count most_bytes) one_line

-- the room of a task that takes its whole input at once, and how many bytes the input has
abbrev pub whole_room : WholeTask → ℕ → ℕ
whole_room (Identify f format) count = name_line
whole_room (Encode f format) count = encoded_bytes f format (min count most_bytes)
whole_room (Check id) count = one_line
whole_room (Verify audit) count = one_line
whole_room other count = none_given

-- THE TABLE: the room of a task; none for the commands of which only a call says how long their
-- text is
abbrev pub room_of : Task → ℕ → ℕ
room_of (Whole task) count = whole_room task count
room_of (Read id) count = read_most count
room_of other count = none_given

-- the room that is told for the words of a text, and an input of so many bytes
pub data IsRoom (text_of_words : List ℕ) (count : ℕ) : ℕ → Type 0 where
  -- that of the task for which they ask
  asked : (words : List (List ℕ)) → AreWords words text_of_words → (task : Task) → IsTask words task
      → IsRoom text_of_words count (room_of task count)
  -- the usage's bytes, if they ask for nothing
  nothing_asked : (words : List (List ℕ)) → AreWords words text_of_words → NoTask words
      → IsRoom text_of_words count (length usage_text)
  -- none, if the text is no list of words
  no_words : AreNoWords text_of_words → IsRoom text_of_words count none_given
  -- want of memory, if that ran out while they were read; it is no room, and no 'none'
  no_memory : IsRoom text_of_words count no_memory_told

-- if a room is given, it suffices: whatever input of so many bytes the words are run over, and
-- however the run ends, its text has no more bytes
abbrev pub Suffices : (List ℕ → List ℕ) → List ℕ → ℕ → ℕ → Type 0
Suffices digest text_of_words count room =
    room < no_memory_told → (words : List (List ℕ)) → AreWords words text_of_words
    → (input : List ℕ) → length input ≡ count → (status : ℕ) (text : List ℕ)
    → Comes digest words input status text → length text ≤ room
