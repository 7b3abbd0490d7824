-- What the program promises of `replay`, from how a run ends.
use Rattle.wal_run.proofs.Common.{◌≡◌, ◌⊎◌, ◌≤◌, ⊎_elim, inr, ℕ, List, [], length, IfSome, refl, ap, take, arith, Appends-kept, Appends-nil, length-take, Appends, Keeps, Schedule, spelled_range, AreFirstLines, front_of, Serve, Whole, Replay, one_task, Around, Answers, Ends, broke_off, cut_off, done, no_memory, no_memory_for_words, serving_ended, sink_failed, source_failed, too_long, usage, whole, IsResult, IsTaken, IsTooLong, MayLeave, collision, success, IsReport, replaying, unfinished}
use Rattle.wal_event.specs.Event.{IsSchedule}
use Rattle.wal_theorem.proofs.Headline.{run_recovers, run_safe}
use Rattle.wal_run.specs.Headline.{AsksToReplay, Headline, TakesSchedule, TellsSchedule}
use Rattle.wal_run.proofs.CommandLaws.{one_schedule, told_of}
use Rattle.wal_run.proofs.Replays.{report_told}

-- the lines of none of a schedule's events
no_lines : (digest : List ℕ → List ℕ) → ((text : List ℕ) → length (digest text) ≡ 32) → (s : Schedule) → IsSchedule s → AreFirstLines digest s []
no_lines digest size s fit =
    let few : length (take 0 s.events) ≤ 65536 = omega (arith, length-take 0 s.events) in
    let fits : IsSchedule (front_of s 0) = assumption in
    record {
      count = 0;
      some = omega arith;
      of_front = record {
        states = [];
        run = tt;
        safe = run_safe digest size (front_of s 0) [] [] fits tt;
        recovered = run_recovers digest size (front_of s 0) [] [] fits tt;
      };
    }

-- ---- how a run ends, by what comes of its input

module _ (digest : List ℕ → List ℕ) (words : List (List ℕ)) (a : Around) (asks : AsksToReplay words a) (Is : ℕ → Type 0)
    (of_result : (input : List ℕ) → IsTaken (replaying digest) a.left a.after input → (status : ℕ) (text : List ℕ)
    → IsResult digest (replaying digest) input status text → Appends a.old a.new text → Is status)
    (of_long : IsTooLong (replaying digest) a.left a.after → Is 9) (of_none : Keeps a.old a.new → Is 5)
    (of_left : (input text : List ℕ) → IsTaken (replaying digest) a.left a.after input
    → MayLeave digest (replaying digest) input text → Appends a.old a.new text → Is 5) where
  -- by the answer that was written
  of_answer : (status : ℕ) (text : List ℕ) → Answers digest words a.left a.after status text → Appends a.old a.new text
      → Is status
  of_answer _ _ (usage none kept) put = absurd (none (Whole Replay) asks.asked)
  of_answer _ _ (too_long task is_task long) put =
      of_long (rw (one_task words task (Whole Replay) is_task asks.asked) at long)
  of_answer _ _ (done task is_task input taken t y result) put =
      let one = one_task words task (Whole Replay) is_task asks.asked in
      of_result input (rw one at taken) t y (rw one at result) put

  of_ends : (status : ℕ) → Ends digest words a status → Is status
  of_ends _ (whole t text answer put) = of_answer t text answer put
  of_ends _ (no_memory_for_words kept none) = of_none none
  of_ends _ (no_memory task asked taken kept) = of_none kept
  of_ends _ (broke_off task asked input taken text left put) =
      let one = one_task words task (Whole Replay) asked asks.asked in
      of_left input text (rw one at taken) (rw one at left) put
  of_ends _ (source_failed task asked takes taken rose kept) = absurd (asks.no_read_fault rose)
  of_ends _ (sink_failed t text answer rose part) = absurd (asks.no_write_fault rose)
  of_ends _ (cut_off task asked input taken text owed rose part) = absurd (asks.no_write_fault rose)
  of_ends _ (serving_ended service asked t serves) =
      absurd (cc (one_task words (Serve service) (Whole Replay) asked asks.asked))

-- ---- a source that tells its bytes

module _ (digest : List ℕ → List ℕ) (size : (text : List ℕ) → length (digest text) ≡ 32) (words : List (List ℕ)) (a : Around) (asks : AsksToReplay words a) (s : Schedule) (tells : TellsSchedule a s) where
  -- the report that belongs to a status was written
  abbrev Reported : ℕ → Type 0
  Reported status = (text : List ℕ) × IsReport digest s status text × Appends a.old a.new text

  -- the bytes that the source tells are the input
  is_input : (input : List ℕ) → IfSome a.left (λ given. input ≡ given) → input ≡ tells.input
  is_input input told = rw tells.tells at told

  -- they are not too long
  not_longer : IsTooLong (replaying digest) a.left a.after → ⊥
  not_longer long = omega (arith, ap length (is_input long.input long.told), long.past, tells.within)

  -- the result for the input that was taken
  result_so : (input : List ℕ) → IsTaken (replaying digest) a.left a.after input → (status : ℕ) (text : List ℕ) → IsResult digest (replaying digest) input status text
      → Appends a.old a.new text → Reported status
  result_so input taken status text result put =
      let here = rw (is_input input taken.told) at result in
      (text, report_told digest s status text (told_of digest (replaying digest) tells.input s tells.spells status text here), put)

  -- memory ran out, and nothing was written
  nothing_so : Keeps a.old a.new → Reported 5
  nothing_so kept =
      let none = no_lines digest size s (spelled_range tells.input s tells.spells) in
      ([], unfinished [] none tt (inr refl), Appends-kept a.old a.old a.new [] (Appends-nil a.old) kept)

  -- memory ran out behind what a replay may leave
  left_so : (input text : List ℕ) → IsTaken (replaying digest) a.left a.after input → MayLeave digest (replaying digest) input text → Appends a.old a.new text
      → Reported 5
  left_so input text taken left put =
      let here = rw (is_input input taken.told) at left.0.1 in
      (text, rw (one_schedule tells.input left.0.0 s here tells.spells) at left.0.2, put)

  ends_so : (status : ℕ) → Ends digest words a status → Reported status
  ends_so = of_ends digest words a asks Reported result_so (λ long. absurd (not_longer long)) nothing_so left_so

-- ---- any source

-- the status of a report that is through, or ended in a collision
abbrev IsThrough : ℕ → Type 0
IsThrough status = (status ≡ 0) ⊎ (status ≡ 10)

module _ (digest : List ℕ → List ℕ) (words : List (List ℕ)) (a : Around) (asks : AsksToReplay words a) where
  abbrev Replayed : ℕ → Type 0
  Replayed status = (s : Schedule) × TakesSchedule a s × (text : List ℕ) × IsReport digest s status text × Appends a.old a.new text

  -- the result for the input that was taken
  result_any : (input : List ℕ) → IsTaken (replaying digest) a.left a.after input → (status : ℕ) (text : List ℕ) → IsResult digest (replaying digest) input status text
      → Appends a.old a.new text → IsThrough status → Replayed status
  result_any input taken _ _ (success y is) put through =
      (is.0, record { input = input; taken = taken; spells = is.1 }, y, is.2, put)
  result_any input taken _ _ (collision left right y clash is) put through =
      ⊎_elim
      (λ two. absurd two.0)
      (λ it. (it.0, record { input = input; taken = taken; spells = it.1 }, y, rw is.whole it.2, put)) is.clashes
  result_any input taken status text result put through = grind arith

  ends_any : (status : ℕ) → Ends digest words a status → IsThrough status → Replayed status
  ends_any =
      of_ends digest words a asks (λ t. IsThrough t → Replayed t) result_any (λ long through. grind arith)
      (λ kept through. grind arith) (λ input text taken left put through. grind arith)

-- THE HEADLINE follows from how a run ends
pub headline_of : (digest : List ℕ → List ℕ) → ((text : List ℕ) → length (digest text) ≡ 32) → (words : List (List ℕ)) (a : Around) (status : ℕ)
    → Ends digest words a status → Headline digest words a status
headline_of digest size words a status ends = record {
  of_told = λ asks s tells. ends_so digest size words a asks s tells status ends;
  of_any = λ asks through. ends_any digest words a asks status ends through;
}
