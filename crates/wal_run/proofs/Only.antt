-- Words and an input have one answer, but for the texts of a collision.
use Rattle.wal_run.proofs.Common.{◌≡◌, ⊎_elim, inl, inr, ℕ, ◌<◌, List, [], append-nil, length, Option, Some, refl, sym, ap, ◌∙◌, arith, Appends-kept, Appends-nil, Appends, ReadFault, WriteFault, Task, Serve, Service, IsTask, one_task, Around, Command, Grammar, IsFrontOf, IsFrontUpToClash, IsResult, IsTaken, IsTooLong, MayLeave, MayOwe, TakenBy, TakesInput, nothing, command_of, Answers, Completes, Ends, answered, broke_off, cut_off, done, no_memory, no_memory_for_words, served, serving_ended, sink_failed, source_failed, too_long, usage, whole, HasOneAnswer, IsExact, WasTold, IsPlaceOf, Place, line, place_of}
use Rattle.wal_run.specs.Causes as causes
use Rattle.wal_run.proofs.CommandLaws.{SameAt, one_result}
use Rattle.wal_run.proofs.OneService.{ServedUntil, answer_or_fault, one_asked, one_service}
use Rattle.wal_run.proofs.ServiceEnds.{no_answer, no_result}
use Rattle.wal_run.proofs.ServiceFaults.{read_told, whole_of, write_told}
use Rattle.wal_run.proofs.Tasks.{determined, in_range}

-- ---- what is taken of the bytes of a source

-- the same input, by a command that takes the whole one or by one that takes none
taken_once : (g : Grammar) (limit : ℕ) (input xs ys : List ℕ) (after then : Option (List ℕ)) → TakenBy g limit (Some input) after xs
    → TakenBy g limit (Some input) then ys → xs ≡ ys
taken_once nothing limit input xs ys after then a b = a.1 ∙ sym b.1
taken_once g limit input xs ys after then a b = a.told ∙ sym b.told

-- an input is longer than the limit, or was taken whole
not_both : (g : Grammar) (limit : ℕ) (input xs ys : List ℕ) (then : Option (List ℕ)) → TakesInput g → xs ≡ input → limit < length xs
    → TakenBy g limit (Some input) then ys → ⊥
not_both nothing limit input xs ys then takes is long b = takes
not_both g limit input xs ys then takes is long b = omega (arith, ap length is, ap length b.told, long, b.within)

not_taken : {c : Command} {input : List ℕ} {after : Option (List ℕ)} (ys : List ℕ) (then : Option (List ℕ))
    → IsTooLong c (Some input) after → IsTaken c (Some input) then ys → ⊥
not_taken {c} {input} ys then long taken =
    not_both c.grammar c.limit input long.input ys then long.takes long.told long.past taken

-- ---- one answer

-- a task whose command has a result tells a collision in its last line
line_of : (digest : List ℕ → List ℕ) (task : Task) (input : List ℕ) (s : ℕ) (x : List ℕ) → IsResult digest (command_of digest task) input s x → line ≡ place_of task
line_of digest (Serve service) input s x result = absurd (no_result digest input s x result)
line_of digest task input s x result = refl

module _ (digest : List ℕ → List ℕ) (words : List (List ℕ)) (input : List ℕ) (after then : Option (List ℕ))
    (task : Task) (xs : List ℕ) (asks : IsTask words task)
    (taken : IsTaken (command_of digest task) (Some input) after xs) where
  -- of whatever is true of each result of the input
  of_answer : (Is : ℕ → List ℕ → Type 0) → ((t : ℕ) (y : List ℕ) → IsResult digest (command_of digest task) xs t y → Is t y) → (t : ℕ) (y : List ℕ)
      → Answers digest words (Some input) then t y → Is t y
  of_answer Is each t y (usage none kept) = absurd (none task asks)
  of_answer Is each t y (too_long b asked long) =
      absurd (not_taken xs after long (rw (one_task words task b asks asked) at taken))
  of_answer Is each t y (done b asked ys given u z result) =
      let c = command_of digest task in
      let one = one_task words b task asked asks in
      let inputs = taken_once c.grammar c.limit input ys xs then after (rw one at given) taken in
      each u z (rw inputs at (rw one at result))

-- an answer that is known before it is written is the only such one
only_answer : (digest : List ℕ → List ℕ) (words : List (List ℕ)) (place : Place) → IsPlaceOf words place → (input : List ℕ) (after : Option (List ℕ)) (s : ℕ) (x : List ℕ) (then : Option (List ℕ)) (t : ℕ) (y : List ℕ)
    → Answers digest words (Some input) after s x → Answers digest words (Some input) then t y → SameAt place s x t y
only_answer digest words place at input after s x then t y (usage none kept) (usage never also) = (refl, inl refl)
only_answer digest words place at input after s x then t y (usage none kept) (too_long b asked long) = absurd (none b asked)
only_answer digest words place at input after s x then t y (usage none kept) (done b asked ys taken u z result) = absurd (none b asked)
only_answer digest words place at input after s x then t y (too_long a asks far) (usage never also) = absurd (never a asks)
only_answer digest words place at input after s x then t y (too_long a asks far) (too_long b asked long) = (refl, inl refl)
only_answer digest words place at input after s x then t y (too_long a asks far) (done b asked ys taken u z result) =
    absurd (not_taken ys then far (rw (one_task words b a asked asks) at taken))
only_answer digest words place at input after s x then t y (done a asks xs spent v w comes) other =
    of_answer digest words input after then a xs asks spent (SameAt place v w)
    (λ u z result. rw (at a asks, ← line_of digest a xs u z result)
    (one_result digest (command_of digest a) (determined digest a (in_range words a asks)) xs v w u z comes result))
    t y other

-- THE ANSWER, where the source tells its bytes, is the only one; the texts of a collision are free
pub only : (digest : List ℕ → List ℕ) (words : List (List ℕ)) (place : Place) → IsPlaceOf words place → (input : List ℕ) (after : Option (List ℕ)) (s : ℕ) (x : List ℕ) (then : Option (List ℕ)) (t : ℕ) (y : List ℕ)
    → Completes digest words (Some input) after s x → Completes digest words (Some input) then t y → SameAt place s x t y
only digest words place at input after s x then t y (answered u v is) (answered w z also) = only_answer digest words place at input after u v then w z is also
only digest words place at input after s x then t y (answered u v is) (served service asked given spent w z serves) = absurd (no_answer digest words (Some input) after service u v asked is)
only digest words place at input after s x then t y (served service asks taken lost u v serves) (answered w z also) = absurd (no_answer digest words (Some input) then service w z asks also)
only digest words place at input after s x then t y (served service asks taken lost u v serves) (served other asked given spent w z also) =
    let here = rw (one_asked words service other asks asked) at serves in
    rw (at (Serve other) asked) (one_service digest other input taken given after then u w v z lost spent here also)

-- ---- what a command left written when it broke off is a front of the answer, up to a collision

module _ (digest : List ℕ → List ℕ) (words : List (List ℕ)) (input : List ℕ) (after then : Option (List ℕ)) (place : Place) (at : IsPlaceOf words place) (task : Task) (xs part : List ℕ) (asks : IsTask words task) (taken : IsTaken (command_of digest task) (Some input) after xs) where
  of_complete : (Is : ℕ → List ℕ → Type 0) → ((t : ℕ) (y : List ℕ) → IsResult digest (command_of digest task) xs t y → Is t y)
      → ((service : Service) → task ≡ Serve service → ⊥) → (t : ℕ) (y : List ℕ) → Completes digest words (Some input) then t y → Is t y
  of_complete Is each never t y (answered u z is) = of_answer digest words input after then task xs asks taken Is each u z is
  of_complete Is each never t y (served service asked given spent u z serves) = absurd (never service (one_task words task (Serve service) asks asked))

  pub front_left : MayLeave digest (command_of digest task) xs part → (t : ℕ) (y : List ℕ) → Completes digest words (Some input) then t y → IsFrontOf part y
  front_left left = of_complete (λ s x. IsFrontOf part x) left.1 (λ service is. let none = rw is at left in none.0.2)

  pub front_owed : MayOwe digest (command_of digest task) xs part → (t : ℕ) (y : List ℕ) → Completes digest words (Some input) then t y → IsFrontUpToClash place t part y
  front_owed owed =
      of_complete (λ s x. IsFrontUpToClash place s part x)
      (λ s x result. rw (at task asks, ← line_of digest task xs s x result) (owed.1 s x result)) (λ service is. let none = rw is at owed in none.0.2)

-- so a run has that answer, but for want of memory and faults
pub exact : (digest : List ℕ → List ℕ) (words : List (List ℕ)) (a : Around) (status : ℕ) → Ends digest words a status → IsExact digest words a status
exact digest words a status ends place at input tells then expected text answer =
    elim ends as (λ s _. WasTold place expected text a s) [
      | whole s x given put ↦ told_so s x (answered s x given) put
      | no_memory_for_words kept none ↦ causes.no_memory [] (text, refl) (Appends-kept a.old a.old a.new [] (Appends-nil a.old) none)
      | no_memory asked is_task taken kept ↦ causes.no_memory [] (text, refl) (Appends-kept a.old a.old a.new [] (Appends-nil a.old) kept)
      | broke_off asked is_task xs taken part left put ↦
          causes.no_memory part (front_left digest words input a.after then place at asked xs part is_task
          (rw tells at taken) left expected text answer) put
      | source_failed asked is_task takes taken rose kept ↦ causes.source_failed rose [] (text, refl) (Appends-kept a.old a.old a.new [] (Appends-nil a.old) kept)
      | sink_failed s x given rose part ↦ causes.sink_failed rose x (up_to_clash s x (answered s x given)) part
      | cut_off asked is_task xs taken part owed rose front ↦
          causes.sink_failed rose part (front_owed digest words input a.after then place at asked xs part is_task
          (rw tells at taken) owed expected text answer) front
      | serving_ended service asked s serves ↦
          ⊎_elim
          (λ given. told_so s given.0 given.1 given.2)
          (λ fault. ⊎_elim
          (λ read. rw read.0 (read_failed service asked read.1 read.2))
          (λ write. rw write.0 (write_failed service asked write.1 write.2)) fault)
          (answer_or_fault digest words service a s asked serves)
    ]
  where
    one_of : (s : ℕ) (x : List ℕ) → Completes digest words a.left a.after s x → SameAt place s x expected text
    one_of s x given = only digest words place at input a.after s x then expected text (rw tells at given) answer

    told_so : (s : ℕ) (x : List ℕ) → Completes digest words a.left a.after s x → Appends a.old a.new x → WasTold place expected text a s
    told_so s x given put = let one = one_of s x given in rw one.0 (causes.told x (rw one.0 at one.1) put)

    -- a text that is the same but for a collision is a front up to it
    up_to_clash : (s : ℕ) (x : List ℕ) → Completes digest words a.left a.after s x → IsFrontUpToClash place expected x text
    up_to_clash s x given =
        let one = one_of s x given in
        ⊎_elim (λ equal. inl ([], sym equal ∙ sym (append-nil x))) (λ apart. inr (sym one.0 ∙ apart.0, apart.1)) one.1

    read_failed : (service : Service) → IsTask words (Serve service) → a.SourceRose → ServedUntil digest service a ReadFault → WasTold place expected text a 6
    read_failed service asked rose until =
        let whole = whole_of digest service input words then expected text asked answer in
        let left =
        read_told digest service input expected text whole until.0 a.SourceRose a.SinkRose a.old a.new a.after
        (rw tells at until.1) in
        causes.source_failed rose left.0 left.1 left.2

    write_failed : (service : Service) → IsTask words (Serve service) → a.SinkRose → ServedUntil digest service a WriteFault → WasTold place expected text a 7
    write_failed service asked rose until =
        let whole = whole_of digest service input words then expected text asked answer in
        let left =
        write_told digest service input expected text whole until.0 a.SourceRose a.SinkRose a.old a.new a.after
        (rw tells at until.1) in
        causes.sink_failed rose left.0 (rw (at (Serve service) asked) left.1) left.2

pub one_answer : (digest : List ℕ → List ℕ) (words : List (List ℕ)) → HasOneAnswer digest words
one_answer digest words place at input after later status other text given is also = only digest words place at input after status text later other given is also
