-- How a run ends is a row of the table of causes.
use Rattle.wal_run.proofs.Common.{⊎_elim, arith, inl, inr, ℕ, List, Some, false, refl, Appends, IsAtEnd, Task, Serve, Service, IsTask, ServeEnd, Done, Serves, desk_room, sent, IsServed, Around, Command, IsResult, IsTaken, collision, lacking, rejection, success, unreadable, command_of, answering, at_start, end_status, serve_limit, Answers, Ends, answered, cut_off, done, served, serving_ended, sink_failed, source_failed, too_long, usage, whole, Causes, IsComplete, IsUsage, ShowsCause}
use Rattle.wal_serve.specs.State.{ServedState as ServingState}
use Rattle.wal_serve.specs.Serving as serving
use Rattle.wal_served.specs.Steps.{IsReached}
use Rattle.wal_run.specs.Causes as causes
use Rattle.wal_run.specs.Causes.{ServesUntil}
use Rattle.wal_run.proofs.OneService.{answer_or_fault}
use Rattle.wal_run.proofs.ServiceEnds.{memory_first, served_ends}

module _ (digest : List ℕ → List ℕ) (words : List (List ℕ)) (a : Around) where
  -- serving
  module _ (service : Service) (asked : IsTask words (Serve service)) (state : ServingState) where
    abbrev Run : ServeEnd → Type 0
    Run end =
        IsServed (answering digest) (desk_room service.faults) serve_limit service.shard (at_start service) state a.left a.after a.SourceRose a.old a.new a.SinkRose end

    until : (end : ServeEnd) → Run end → ServesUntil digest words a end
    until end run = record { service = service; is_task = asked; state = state; run = run }

    serving_row : (end : ServeEnd) (run : Run end) → IsReached digest false (desk_room service.faults) serve_limit (at_start service) run.taken run.frames state end
        → Serves (answering digest) (desk_room service.faults) serve_limit (at_start service) run.taken (IsAtEnd a.after) a.SourceRose a.SinkRose run.frames state end
        → Causes digest words a (end_status end)
    serving_row _ run reached (serving.done all within ended) =
        causes.success (
          sent service.shard run.frames,
          served service asked run.taken run.consumed 0 _ (run.frames, state, Done, serving.done all within ended, reached, refl, refl),
          run.wrote,
        )
    serving_row _ run reached (serving.stopped clash before all within last) =
        causes.collision_serving clash
        (served_ends digest false (desk_room service.faults) (at_start service) run.taken run.frames (Some clash) state clash refl all) (until _ run)
    serving_row _ run reached (serving.wrong front b is bad some within) = causes.unreadable_serving _ (until _ run)
    serving_row _ run reached (serving.cut front rest is part long some within ended) = causes.unreadable_serving _ (until _ run)
    serving_row _ run reached (serving.too_long front rest b is part some past) = causes.too_long_serving (until _ run)
    serving_row _ run reached (serving.read_fault front rest is part some within rose) = causes.source_failed_serving rose (until _ run)
    serving_row _ run reached (serving.write_fault clash all within rose) = causes.sink_failed_serving rose (until _ run)

  -- a command whose input was taken
  module _ (asked : Task) (is_task : IsTask words asked) (input : List ℕ)
      (taken : IsTaken (command_of digest asked) a.left a.after input) where
    shows : (Cause : Command → List ℕ → List ℕ → Type 0) (text : List ℕ) → Cause (command_of digest asked) input text
        → Appends a.old a.new text → ShowsCause digest words a Cause
    shows Cause text cause put = record {
      asked = asked;
      is_task = is_task;
      input = input;
      taken = taken;
      text = text;
      cause = cause;
      written = put;
    }

    result_row : (s : ℕ) (x : List ℕ) → IsResult digest (command_of digest asked) input s x → Appends a.old a.new x
        → Causes digest words a s
    result_row _ _ (success text is) put =
        causes.success (text, answered 0 text (done asked is_task input taken 0 text (success text is)), put)
    result_row _ _ (rejection text is) put = causes.rejected (shows _ text is put)
    result_row _ _ (lacking text is) put = causes.lacking (shows _ text is put)
    result_row _ _ (unreadable text is) put = causes.unreadable (shows _ text is put)
    result_row _ _ (collision one other text clash is) put = causes.collision one other clash (shows _ text is put)

  -- an answer that was written
  answer_row : (s : ℕ) (x : List ℕ) → Answers digest words a.left a.after s x → Appends a.old a.new x → Causes digest words a s
  answer_row _ _ (usage none kept) put = causes.usage none kept put
  answer_row _ _ (too_long asked is_task long) put = causes.too_long asked is_task long put
  answer_row _ _ (done asked is_task input taken t y result) put = result_row asked is_task input taken t y result put

  -- HOW A RUN ENDS
  pub causes_of : (status : ℕ) → Ends digest words a status → Causes digest words a status
  causes_of _ (whole s x answer put) = answer_row s x answer put
  causes_of _ (source_failed asked is_task takes taken rose kept) =
      causes.source_failed rose asked is_task takes taken kept
  causes_of _ (sink_failed s x answer rose part) = causes.sink_failed rose x (inl (s, answer)) part
  causes_of _ (cut_off asked is_task input taken text owed rose part) =
      causes.sink_failed rose text (inr (asked, is_task, input, taken, owed)) part
  causes_of _ (serving_ended service asked s ends) = rw ends.4 (serving_row service asked ends.0 ends.1 ends.2 ends.3 ends.2.serves)
  causes_of _ ends = causes.no_memory (λ service asked. memory_first digest words a 5 service asked ends refl)

  -- words that ask for nothing have the status of usage, but for want of memory and a sink that failed
  pub nothing_asked : (status : ℕ) → Ends digest words a status → IsUsage words a status
  nothing_asked _ (whole _ _ (usage never kept) put) none = inl refl
  nothing_asked _ (whole _ _ (too_long asked is_task long) put) none = absurd (none asked is_task)
  nothing_asked _ (whole _ _ (done asked is_task input taken t y result) put) none = absurd (none asked is_task)
  nothing_asked _ (source_failed asked is_task takes taken rose kept) none = absurd (none asked is_task)
  nothing_asked _ (sink_failed s x answer rose part) none = inr (inr (refl, rose))
  nothing_asked _ (cut_off asked is_task input taken text owed rose part) none = inr (inr (refl, rose))
  nothing_asked _ (serving_ended service asked s serves) none = absurd (none (Serve service) asked)
  nothing_asked _ ends none = inr (inl refl)

-- where no fault came, a run has its whole answer, or memory ran out
pub answered_unless_memory : (digest : List ℕ → List ℕ) (words : List (List ℕ)) (a : Around) (status : ℕ) → Ends digest words a status
    → IsComplete digest words a status
answered_unless_memory digest words a _ (whole s text answer appends) no_source no_sink =
    inr (text, answered s text answer, appends)
answered_unless_memory digest words a _ (source_failed task asked has taken rose kept) no_source no_sink =
    absurd (no_source rose)
answered_unless_memory digest words a _ (sink_failed s text answer rose part) no_source no_sink = absurd (no_sink rose)
answered_unless_memory digest words a _ (cut_off task asked input taken text owed rose part) no_source no_sink =
    absurd (no_sink rose)
answered_unless_memory digest words a _ (serving_ended service asked s serves) no_source no_sink =
    inr (⊎_elim (λ given. given) (⊎_elim (λ read. absurd (no_source read.1)) (λ write. absurd (no_sink write.1)))
    (answer_or_fault digest words service a s asked serves))
answered_unless_memory digest words a _ ends no_source no_sink = inl refl
