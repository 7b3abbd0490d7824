-- How serving a shard ends: without a fault its whole answer was written, and want of memory comes before the first byte.
use Rattle.wal_run.proofs.Common.{◌≡◌, ◌⊎◌, ℕ, List, Option, sym, ◌∙◌, arith, Appends, Keeps, ServeEnd, ReadFault, WriteFault, Serves, Table, Wrote, Serve, Service, IsTask, one_task, end_status, Around, Answers, Ends, broke_off, done, no_memory, no_memory_for_words, serving_ended, too_long, usage, whole, IsResult, TakesAtMost, bare, nothing, Bool, Some, Result, Ok, Err, ap, MetaClash, IsCollision, FrameError, Frame, read_of, Log, Contents, ShardState, desk, clash_in, put_reply, Replies}
use Rattle.wal_frame.specs.Frame as frames
use Rattle.wal_shard.specs.declared.answers.PutAnswer.{PutAnswer}
use Rattle.wal_shard.specs.declared.answers.PutAnswer.TheVariants.{OtherMetadata}
use Rattle.wal_shard.specs.Putting.{PutsOrWants}
use Rattle.wal_serve.specs.Answers as requests
use Rattle.wal_serve.specs.Answers.{AnswersFrame, AnswersPut, AnswersRead}
use Rattle.wal_serve.specs.State.{ServedState as ServingState}
use Rattle.wal_serve.specs.Serving as serving
use Rattle.wal_run.proofs.Endings.{kept_few}

module _ {C : Type 0} (Answer : Table C) (room limit : ℕ) (fresh : C) (taken : List ℕ) (AtEnd : Type 0) (frames : List (List ℕ)) (state : C) where
  -- serving ended by a fault, which came, or would have ended so without one
  pub calm_or_faulted : (SourceRose SinkRose : Type 0) (end : ServeEnd)
      → Serves Answer room limit fresh taken AtEnd SourceRose SinkRose frames state end
      → Serves Answer room limit fresh taken AtEnd ⊥ ⊥ frames state end
      ⊎ (((end ≡ ReadFault) × SourceRose) ⊎ ((end ≡ WriteFault) × SinkRose))
  calm_or_faulted SourceRose SinkRose end serves =
      grind (arith, serving.done, serving.stopped, serving.wrong, serving.cut, serving.too_long)

  -- where no fault came, all was written
  pub all_written : (end : ServeEnd) (Failed : Type 0) (old new : Option (List ℕ)) (text : List ℕ) → Serves Answer room limit fresh taken AtEnd ⊥ ⊥ frames state end → Wrote end Failed old new text
      → Appends old new text
  all_written _ Failed old new text (serving.write_fault clash all within rose) put = absurd rose
  all_written end Failed old new text serves put = put

-- no end of serving is want of memory
end_no_want : (e : ServeEnd) → end_status e ≡ 5 → ⊥
end_no_want e is = grind arith

-- what serves has no result for a whole input
pub no_result : (digest : List ℕ → List ℕ) (input : List ℕ) (s : ℕ) (x : List ℕ) → IsResult digest (bare 0 nothing) input s x → ⊥
no_result digest input s x result = grind arith

-- words that ask for serving have no answer that is known before it is written
pub no_answer : (digest : List ℕ → List ℕ) (words : List (List ℕ)) (left after : Option (List ℕ)) (service : Service) (status : ℕ) (text : List ℕ) → IsTask words (Serve service)
    → Answers digest words left after status text → ⊥
no_answer digest words left after service _ _ asked (usage none kept) = none (Serve service) asked
no_answer digest words left after service _ _ asked (too_long task other long) =
    rw (one_task words task (Serve service) other asked) at long.takes
no_answer digest words left after service _ _ asked (done task other input taken s t result) =
    no_result digest input s t (rw (one_task words task (Serve service) other asked) at result)

-- memory ran out before a byte was taken or written
pub memory_first : (digest : List ℕ → List ℕ) (words : List (List ℕ)) (a : Around) (status : ℕ) (service : Service)
    → IsTask words (Serve service)
    → Ends digest words a status → status ≡ 5 → TakesAtMost a.left a.after 0 × Keeps a.old a.new
memory_first digest words a _ service asked (whole s text answer appends) is =
    absurd (no_answer digest words a.left a.after service s text asked answer)
memory_first digest words a _ service asked (no_memory_for_words kept none) is = (kept_few a.left a.after 0 kept, none)
memory_first digest words a _ service asked (no_memory task other taken kept) is =
    (rw (one_task words task (Serve service) other asked) at taken, kept)
memory_first digest words a _ service asked (broke_off task other input taken text left put) is =
    let no = rw (one_task words task (Serve service) other asked) at left in absurd no.0.2
memory_first digest words a _ service asked (serving_ended other is_task s serves) is =
    absurd (end_no_want serves.1 (sym serves.4 ∙ is))
memory_first digest words a _ service asked ends is = absurd (omega (arith, is))

put_clash : (digest : List ℕ → List ℕ) (want : Bool) (shard : ShardState) (log : Log) (frame : Frame) (answer : PutAnswer) (contents : Contents) (c : MetaClash)
    → PutsOrWants digest want (desk shard log) shard.contents frame answer contents → clash_in (put_reply answer) ≡ Some c → IsCollision digest c.left c.right
put_clash digest want shard log frame (OtherMetadata d) contents c puts is =
    let same : d ≡ c = cc in rw same at puts.6
put_clash digest want shard log frame answer contents c puts is = absurd cc

module _ (digest : List ℕ → List ℕ) (want : Bool) (old : ServingState) (texts : List (List ℕ)) (clash : Option MetaClash) (new : ServingState) (c : MetaClash) (is : clash ≡ Some c) where
  put_ends : (frame : Frame) → AnswersPut digest want frame old texts clash new → IsCollision digest c.left c.right
  put_ends frame a =
      put_clash digest want old.shard old.ledger.log frame a.2.0 a.1 c a.2.1 (sym (a.3.1 ∙ ap clash_in a.2.2) ∙ is)

  frame_ends : (frame : Frame) → AnswersFrame digest want frame old texts clash new → IsCollision digest c.left c.right
  frame_ends (frames.Metadata m) a = put_ends (frames.Metadata m) a
  frame_ends (frames.Sliver id axis index bytes) a = put_ends (frames.Sliver id axis index bytes) a
  frame_ends (frames.Proof id p) a = put_ends (frames.Proof id p) a
  frame_ends frame a = grind arith

  read_ends : (read : Result Frame FrameError) → AnswersRead digest want read old texts clash new → IsCollision digest c.left c.right
  read_ends (Ok frame) a = frame_ends frame a
  read_ends (Err e) a = absurd (grind arith)

replies_end : (digest : List ℕ → List ℕ) (want : Bool) (room : ℕ) (old : ServingState) (payload : List ℕ) (texts : List (List ℕ)) (clash : Option MetaClash) (new : ServingState) (c : MetaClash)
    → clash ≡ Some c → Replies (requests.AnswersRequest digest want) room old payload texts clash new → IsCollision digest c.left c.right
replies_end digest want room old payload texts clash new c is (serving.looked_at some end state short answer) = read_ends digest want old texts clash new c is (read_of payload) answer
replies_end digest want room old payload texts clash new c is (serving.read_past long) = absurd cc

pub served_ends : (digest : List ℕ → List ℕ) (want : Bool) (room : ℕ) (fresh : ServingState) (taken : List ℕ) (texts : List (List ℕ)) (clash : Option MetaClash) (state : ServingState) (c : MetaClash)
    → clash ≡ Some c → serving.Served (requests.AnswersRequest digest want) room fresh taken texts clash state → IsCollision digest c.left c.right
served_ends digest want room fresh taken texts clash state c is serving.none = absurd cc
served_ends digest want room fresh taken texts clash state c is (serving.more front before mid was sender payload some end new fits replies) =
    replies_end digest want room mid payload some clash state c is replies
