-- How the endings of a part become those of the whole run.
use Rattle.wal_run.proofs.Common.{◌≡◌, ℕ, ◌+◌, ◌<◌, ◌⊎◌, List, [], length, Option, Some, None, IfSome, Result, Ok, Err, IsErrAnd, IsErrOf, refl, sym, arith, Keeps, AppendsPart, TakeError, Task, IsTask, Around, Command, Content, Grammar, IsFrontOf, IsFrontUpToClash, IsResult, Spells, IsTaken, IsTakenWhole, MayLeave, MayOwe, TakenBy, TakesAtMost, TakesInput, IsAllOf, nothing, command_of, Told, PutError, Does, DoesTold, Finishes, Performs, PutsPiece, cut, finished, lost_sink, out_of_memory, performed, wanted_memory, written, Answers, Ends, broke_off, cut_off, done, no_memory, sink_failed, whole}
use Rattle.wal_port.specs.declared.transfers.TakeError.TheVariants.{ReadFault, TooLong, Memory}
use Rattle.wal_run.specs.SameText as same_text
use Rattle.wal_run.specs.declared.finish.PutError.TheVariants.{WriteFault}
use Rattle.wal_run.proofs.CommandLaws.{of_told, told_of}

-- an input that is too long, where more than the limit was taken, as is told under a premise that holds
pub long_input : (left : Option (List ℕ)) (P : Type 0) (limit : ℕ) (taken : List ℕ) → length taken ≡ limit + 1
    → IfSome left (λ xs. P → limit < length xs) → P → (input : List ℕ) × IsAllOf left input × (limit < length input)
long_input None P limit taken long told p = (taken, tt, omega (arith, long))
long_input (Some given) P limit taken long told p = (given, refl, told p)

-- the whole input of a command that takes one was taken
pub taken_by : (g : Grammar) (limit : ℕ) (left after : Option (List ℕ)) (input : List ℕ) → TakesInput g → IsTakenWhole limit left after input
    → TakenBy g limit left after input
taken_by nothing limit left after input takes is = absurd takes
taken_by g limit left after input takes is = is

-- where nothing was taken, that is within any limit
pub kept_few : (left after : Option (List ℕ)) (limit : ℕ) → Keeps left after → TakesAtMost left after limit
kept_few None after limit kept = ([], tt, omega arith)
kept_few (Some given) None limit kept = absurd kept
kept_few (Some given) (Some rest) limit kept = ([], sym kept, omega arith)

-- no more than the limit was taken
pub taken_few : (g : Grammar) (limit : ℕ) (left after : Option (List ℕ)) (input : List ℕ) → TakenBy g limit left after input → TakesAtMost left after limit
taken_few nothing limit left after input is = kept_few left after limit is.0
taken_few g limit left after input is = (input, is.consumed, is.within)

-- what is one text is another
pub finishes_as : {A B : List ℕ → Type 0} {old new : Option (List ℕ)} {SinkRose : Type 0} {success status : ℕ}
    → Finishes A old new SinkRose success status → ((text : List ℕ) → A text → B text) → Finishes B old new SinkRose success status
finishes_as (written text a appends) is = written text (is text a) appends
finishes_as (cut text a rose part) is = cut text (is text a) rose part

module _ (digest : List ℕ → List ℕ) (words : List (List ℕ)) (a : Around) where
  -- a text that is the answer was written, or a part of it
  pub ends_finished : (IsText : List ℕ → Type 0) (success status : ℕ)
      → ((text : List ℕ) → IsText text → Answers digest words a.left a.after success text)
      → Finishes IsText a.old a.new a.SinkRose success status → Ends digest words a status
  ends_finished IsText success _ answers (written text is put) = whole success text (answers text is) put
  ends_finished IsText success _ answers (cut text is rose part) = sink_failed success text (answers text is) rose part

  -- a task whose input was taken
  pub ends_performed : (task : Task) (status : ℕ) (input : List ℕ)
      → IsTask words task → IsTaken (command_of digest task) a.left a.after input
      → Performs (IsResult digest (command_of digest task) input) a.old a.new a.SinkRose status → Ends digest words a status
  ends_performed task _ input asked taken (out_of_memory kept) =
      let c = command_of digest task in
      no_memory task asked (taken_few c.grammar c.limit a.left a.after input taken) kept
  ends_performed task _ input asked taken (finished success s f) =
      ends_finished _ success s (λ text is. done task asked input taken success text is) f

  -- the same of a task that writes while it works
  pub ends_done : (task : Task) (status : ℕ) (input : List ℕ)
      → IsTask words task → IsTaken (command_of digest task) a.left a.after input
      → Does (IsResult digest (command_of digest task) input) (MayLeave digest (command_of digest task) input) (MayOwe digest (command_of digest task) input) a.old a.new a.SinkRose status
      → Ends digest words a status
  ends_done task _ input asked taken (performed s p) = ends_performed task s input asked taken p
  ends_done task _ input asked taken (wanted_memory text owed put) = broke_off task asked input taken text owed put
  ends_done task _ input asked taken (lost_sink text owed rose part) =
      cut_off task asked input taken text owed rose part

-- the other faults of taking an input are not that it is too long
pub not_too_long : {T : Type 0} (e : TakeError) → (e ≡ ReadFault) ⊎ (e ≡ Memory) → IsErrOf {T = T} (Err e) TooLong → ⊥
not_too_long e is long = grind arith

-- what is one result is another
pub performs_as : {A B : ℕ → List ℕ → Type 0} {old new : Option (List ℕ)} {SinkRose : Type 0} {status : ℕ}
    → Performs A old new SinkRose status → ((s : ℕ) (text : List ℕ) → A s text → B s text) → Performs B old new SinkRose status
performs_as (out_of_memory kept) is = out_of_memory kept
performs_as (finished success s f) is = finished success s (finishes_as f (is success))

-- the same of a task that writes while it works
pub does_as : {A B : ℕ → List ℕ → Type 0} {L M O P : List ℕ → Type 0} {old new : Option (List ℕ)} {SinkRose : Type 0} {status : ℕ} → Does A L O old new SinkRose status
    → ((s : ℕ) (text : List ℕ) → A s text → B s text) → ((text : List ℕ) → L text → M text) → ((text : List ℕ) → O text → P text) → Does B M P old new SinkRose status
does_as (performed s p) is leaves owes = performed s (performs_as p is)
does_as (wanted_memory text left put) is leaves owes = wanted_memory text (leaves text left) put
does_as (lost_sink text owed rose part) is leaves owes = lost_sink text (owes text owed) rose part

-- what is done by what the input spells is so by the input, where what is left and owed is a front of whatever is told
pub does_spelled : (digest : List ℕ → List ℕ) (c : Command) (input : List ℕ) (content : Content c.grammar) (old new : Option (List ℕ)) (SinkRose : Type 0) (status : ℕ)
    → Spells digest c.grammar input content
    → ((text : List ℕ) → c.Leaves content text → (s : ℕ) (x : List ℕ) → Told digest c content s x → IsFrontOf text x)
    → ((text : List ℕ) → c.Owes content text → (s : ℕ) (x : List ℕ) → Told digest c content s x → IsFrontUpToClash same_text.line s text x)
    → DoesTold digest c content old new SinkRose status → Does (IsResult digest c input) (MayLeave digest c input) (MayOwe digest c input) old new SinkRose status
does_spelled digest c input content old new SinkRose status spells leaves owes d =
    does_as d (of_told digest c input content spells)
    (λ text left. ((content, spells, left), λ s x result. leaves text left s x (told_of digest c input content spells s x result)))
    (λ text owed. ((content, spells, owed), λ s x result. owes text owed s x (told_of digest c input content spells s x result)))

-- a part of a piece was written
pub piece_cut : (IsPiece : List ℕ → Type 0) (old new : Option (List ℕ)) (SinkRose : Type 0) (result : Result (Unit {0}) PutError) (piece : List ℕ)
    → IsErrAnd result (λ e. e ≡ WriteFault) → IsPiece piece → SinkRose → AppendsPart old new piece → PutsPiece IsPiece old new SinkRose result
piece_cut IsPiece old new SinkRose (Ok put) piece cause is rose part = absurd cause
piece_cut IsPiece old new SinkRose (Err e) piece cause is rose part =
    rw cause (piece, is, rose, part)
