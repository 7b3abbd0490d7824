-- However a run ends, its text is that of the answer, or a front of it, and what the call returns then.
use Rattle.walrus_c.proofs.Common.{◌≡◌, ℕ, ◌≤◌, List, [], ◌++◌, length, ap, sym, ◌∙◌, arith, inl, inr, Option, Some, append_cancel_left, Rose, Task, Serve, IsTask, NoTask, Answers, Ends, usage, too_long, done, whole, no_memory_for_words, no_memory, broke_off, source_failed, sink_failed, cut_off, serving_ended, usage_text, bytes as any_bytes, envelopes_of, Command, Grammar, IsTaken, IsTakenWhole, MayLeave, TakenBy, command_of, around, ◌⊎◌, ◌+◌, ◌-◌, ◌^◌, ◌<◌, min, ◌∷◌, take, drop, refl, cases_lt, cases_eq, ServeEnd, Wrote, Around, Causes, HasOneAnswer, IsComplete, IsExact, IsUsage, AreWords, AreNoWords, Comes, IsFilled, IsUntouched, Returns, append-nil}
use Rattle.wal_serve.specs.declared.serving.ServeEnd.TheVariants.{WriteFault}
use Rattle.wal_run.specs.Headline.{Headline}
use Rattle.wal_port.proofs.Rooms.{room_holds, same_sink}
use Rattle.walrus_c.specs.inside.Running.{Ran}
use Rattle.walrus_c.specs.Call as call
use Rattle.walrus_c.proofs.Lengths.{HasLines, Tells, leaves, result_short}

-- a count that stays at 0 did not rise
pub never : Rose 0 0 → ⊥
never (inl up) = omega (arith, up)
never (inr last) = omega (arith, last)

-- what was written behind what stood there
pub behind : (before text all : List ℕ) (room : ℕ) → before ++ text ≡ before ++ all → length all ≤ room → length text ≤ room
behind before text all room e few = omega (arith, ap length (append_cancel_left before text all e), few)

-- nothing was written
untouched : (before text : List ℕ) (room : ℕ) → before ++ text ≡ before → length text ≤ room
untouched before text room e = omega (arith, ap length (append_cancel_left before text [] (e ∙ sym (append-nil before))))

-- whatever a command tells of an input has room
pub record HasRoom (digest : List ℕ → List ℕ) (c : Command) (input : List ℕ) (room : ℕ) : Type 0 where
  pub least : 9 ≤ room
  pub lines : HasLines c.grammar c.limit room
  pub tells : length input ≤ c.limit → Tells digest c input room

-- a command whose lines are looked at took the whole input
taken_whole : (g : Grammar) (limit room : ℕ) {left after : Option (List ℕ)} {input : List ℕ} → HasLines g limit room
    → TakenBy g limit left after input → IsTakenWhole limit left after input
taken_whole any_bytes limit room lines taken = taken
taken_whole (envelopes_of id) limit room lines taken = taken
taken_whole other limit room lines taken = absurd lines

module _ (digest : List ℕ → List ℕ) (size_is : (text : List ℕ) → length (digest text) ≡ 32) (words : List (List ℕ)) (input rest before text : List ℕ) (room : ℕ)
    (has : (task : Task) → IsTask words task → HasRoom digest (command_of digest task) input room)
    (has_usage : NoTask words → length usage_text ≤ room) where
  taken_tells : (task : Task) → IsTask words task → (given : List ℕ) → IsTaken (command_of digest task) (Some input) (Some rest) given
      → (length given ≤ (command_of digest task).limit) × Tells digest (command_of digest task) given room
  taken_tells task is given taken =
      let here = has task is in
      let all = taken_whole (command_of digest task).grammar _ room here.lines taken in
      (all.within, rw all.told (here.tells (rw all.told at all.within)))

  answer_short : (status : ℕ) (all : List ℕ) → Answers digest words (Some input) (Some rest) status all → length all ≤ room
  answer_short _ _ (usage none keeps) = has_usage none
  answer_short _ _ (too_long task is past) = omega (arith, (has task is).least)
  answer_short _ _ (done task is given taken status all result) =
      let tells = taken_tells task is given taken in
      result_short digest size_is (command_of digest task) given room (has task is).lines tells.0 tells.1 status all result

  left_short : (task : Task) → IsTask words task → (given : List ℕ) → IsTaken (command_of digest task) (Some input) (Some rest) given → (all : List ℕ)
      → MayLeave digest (command_of digest task) given all → length all ≤ room
  left_short task is given taken all may = (taken_tells task is given taken).1 leaves may.0.0 may.0.1 all may.0.2

  -- the text of a run of words that ask for nothing, or for tasks whose every text has room
  pub end_short : (status : ℕ) → Ends digest words (around input rest before text) status → length text ≤ room
  end_short _ (whole status all is wrote) = behind before text all room wrote (answer_short status all is)
  end_short _ (no_memory_for_words kept keeps) = untouched before text room keeps
  end_short _ (no_memory task is most keeps) = untouched before text room keeps
  end_short _ (broke_off task is given taken all may wrote) =
      behind before text all room wrote (left_short task is given taken all may)
  end_short _ (serving_ended service is status ends) = absurd (has (Serve service) is).lines
  end_short _ (source_failed task is takes most rose keeps) = absurd (never rose)
  end_short _ (sink_failed status all is rose part) = absurd (never rose)
  end_short _ (cut_off task is given taken all may rose part) = absurd (never rose)

-- ---- what a run over slices comes to, and what the call returns then

-- what a run sees where its sink holds this before and that after
abbrev between : List ℕ → List ℕ → List ℕ → List ℕ → Around
between input rest old new = record {
  left = Some input;
  after = Some rest;
  SourceRose = Rose 0 0;
  old = Some old;
  new = Some new;
  SinkRose = Rose 0 0;
}

-- what serving wrote
served : (end : ServeEnd) (Broke : Type 0) (old new text : List ℕ) → (Broke → (more : List ℕ) × (new ≡ old ++ more))
    → Wrote end Broke (Some old) (Some new) text → (more : List ℕ) × (new ≡ old ++ more)
served WriteFault Broke old new text broke wrote = broke wrote
served other Broke old new text broke wrote = (text, wrote)

-- however a run ends, it wrote some text
written_of : (digest : List ℕ → List ℕ) (words : List (List ℕ)) (input rest old new : List ℕ) (status : ℕ)
    → Ends digest words (between input rest old new) status → (text : List ℕ) × (new ≡ old ++ text)
written_of digest words input rest old new _ (whole status text is wrote) = (text, wrote)
written_of digest words input rest old new _ (no_memory_for_words kept keeps) = ([], keeps ∙ sym (append-nil old))
written_of digest words input rest old new _ (no_memory task asked most keeps) = ([], keeps ∙ sym (append-nil old))
written_of digest words input rest old new _ (broke_off task asked given taken text may wrote) = (text, wrote)
written_of digest words input rest old new _ (source_failed task asked takes most rose keeps) = ([], keeps ∙ sym (append-nil old))
written_of digest words input rest old new _ (sink_failed status text is rose part) = (take part.0 text, part.2)
written_of digest words input rest old new _ (cut_off task asked given taken text may rose part) = (take part.0 text, part.2)
written_of digest words input rest old new _ (serving_ended service asked status ends) =
    served ends.1 _ old new _ (λ broke. (_, broke.wrote)) ends.2.wrote

-- all that `run` ensures where its source and its sink are slices
pub record Promised (digest : List ℕ → List ℕ) (words : List (List ℕ)) (input rest old new : List ℕ) (status : ℕ) : Type 0 where
  pub ends : Ends digest words (between input rest old new) status
  pub headline : Headline digest words (between input rest old new) status
  pub causes : Causes digest words (between input rest old new) status
  pub exact : IsExact digest words (between input rest old new) status
  pub nothing_asked : IsUsage words (between input rest old new) status
  pub complete : IsComplete digest words (between input rest old new) status
  pub only : HasOneAnswer digest words

module _ {digest : List ℕ → List ℕ} {words : List (List ℕ)} {input rest old new text : List ℕ} {status : ℕ} where
  -- of a run of which neither the source nor the sink has a fault
  comes_to : new ≡ old ++ text → Promised digest words input rest old new status
      → Comes digest words input status text
  comes_to is all =
      let p : Promised digest words input rest old (old ++ text) status = rw is at all in
      record {
        rest = rest;
        before = old;
        ends = p.ends;
        headline = λ s asked within spells.
            let found = p.headline.of_told (record { asked = asked; no_read_fault = never; no_write_fault = never }) s
            (record { input = input; tells = refl; within = within; spells = spells }) in
            rw (append_cancel_left old text found.0 found.2) found.1;
        causes = p.causes;
        exact = p.exact;
        nothing_asked = λ none. without (p.nothing_asked none);
        complete = p.complete never never;
        only = p.only;
      } where
        without : (status ≡ 2) ⊎ ((status ≡ 5) ⊎ ((status ≡ 7) × Rose 0 0)) → (status ≡ 2) ⊎ (status ≡ 5)
        without (inl e) = inl e
        without (inr (inl e)) = inr e
        without (inr (inr bad)) = absurd (never bad.1)

-- what a sink over the room holds then, of which the mark and the text follow what stood in it before
pub ran : (digest : List ℕ → List ℕ) (words : List (List ℕ)) (input given rest room new mark begun now found beyond : List ℕ)
    (name other status taken count : ℕ)
    → given ≡ input → mark ≡ name ∷ length room ∷ room → begun ≡ []
    → length found ≡ length now → taken ≡ min (min taken (length now) + length beyond) (2 ^ 64 - 1) → drop taken now ≡ drop taken found
    → Promised digest words given rest (mark ++ begun) ((other ∷ length now ∷ found) ++ (take taken now ++ beyond)) status
    → count ≡ min (length (take taken now ++ beyond)) (2 ^ 64 - 1) → length room < 2 ^ 63 → (name ≡ other → new ≡ now)
    → Ran digest words input room new status count
ran digest words input given rest room new mark begun now found beyond name other status taken count is marks none long counted same all counts fits shown =
    let text = written_of digest words given rest _ _ status all.ends in
    let start : mark ++ begun ≡ name ∷ length room ∷ room = cc (none, append-nil mark, marks) in
    let mine = same_sink name other (length now) room found text.0 (take taken now ++ beyond) long cc in
    let size : length now ≡ length room = sym long ∙ ap length mine.1 in
    let holds : now ≡ take (length found) text.0 ++ drop (length text.0) found =
    room_holds now beyond found text.0 taken (omega (arith, size, fits)) long counted same mine.2 in
    record {
      text = text.0;
      comes = comes_to text.1 (rw is at all);
      front = cc (shown mine.0, holds, mine.1);
      counted = cc (counts, mine.2);
    }

module _ {digest : List ℕ → List ℕ} {words : List (List ℕ)} {text_of_words input room new : List ℕ} where
  -- what the call returns of a run
  pub returned : (status count size written result : ℕ) → AreWords words text_of_words
      → Ran digest words input room new status count → size ≡ length room → length room < 2 ^ 63
      → written ≡ min count size → (count ≤ size → result ≡ status)
      → (size < count → (status ≡ 5 → ⊥) → result ≡ 7) → (status ≡ 5 → result ≡ 5)
      → Returns digest text_of_words input room new written count result
  returned status count size written result are run sized fits writes answered past memory =
      by (cases_lt size count) (cases_eq status 5) where
        filled : IsFilled room new run.text written count
        filled = record {
          front = run.front;
          written_is = omega (arith, writes, sized, run.counted, fits);
          needed_is = run.counted;
        }

        by : (size < count) ⊎ (count ≤ size) → (status ≡ 5) ⊎ (status ≡ 5 → ⊥)
            → Returns digest text_of_words input room new written count result
        by (inl more) (inl five) = rw (memory five) (call.no_memory words are run.text (rw five at run.comes) filled)
        by (inl more) (inr other) =
            rw (past more other)
            (call.no_room words are status run.text run.comes other filled
            (omega (arith, more, sized, run.counted, fits)))
        by (inr room_for) either =
            rw (answered room_for)
            (call.answered words are status run.text run.comes filled
            (omega (arith, room_for, sized, run.counted, fits)))

-- what it returns where there are no words
pub refused : {digest : List ℕ → List ℕ} {text_of_words input room new : List ℕ} {written needed status : ℕ}
    → IsUntouched room new written needed
    → (status ≡ 5) ⊎ ((status ≡ 11) × AreNoWords text_of_words) → Returns digest text_of_words input room new written needed status
refused untouched (inl e) = rw e (call.no_memory_for_words untouched)
refused untouched (inr bad) = rw bad.0 (call.no_words bad.1 untouched)
