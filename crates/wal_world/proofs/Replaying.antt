-- Replays, event by event.
use Rattle.wal_world.proofs.Common.{◌≡◌, ℕ, zero, suc, ◌+◌, ◌<◌, ◌≤◌, inl, inr, List, [], ◌∷◌, ◌++◌, length, length-append, take, drop, take-append-drop, append_assoc, get_or, Bool, true, false, Option, Result, Ok, Err, IsErrAnd, refl, sym, ap, subst, ◌∙◌, append-nil, arith, flat_map-append, take_all, take_more, AllByRecursion, IsSchedule, IsEventWithin, Event, Schedule, Line, committee_size, Rose, World, Rules, Steps, first_state, is_collision, GoesOn, Runs, rules_of, goes_on_push, last_push, runs_each, runs_push, runs_stop, run_safe, run_recovers}
use Rattle.std.proofs.Math.Seq.{take-append-add}
use Rattle.std.proofs.KnownBytes.{Appends-kept, Appends-nil, Appends-trans}
use Rattle.std.proofs.lemmas.List.{length-take}
use Rattle.std.specs.Io.KnownBytes.{Appends}
use Rattle.wal_event.specs.Report.{line_text, report_of}
use Rattle.wal_port.specs.Appending.{AppendsPart}
use Rattle.wal_theorem.specs.Lines.{AreLines, AreFirstLines, EndsInCollision, front_of}
use Rattle.wal_world.specs.Ending.{Replays}
use Rattle.wal_world.specs.inside.Ending.{Takes}
use Rattle.wal_world.specs.declared.run.ReplayEnd.{ReplayEnd}
use Rattle.wal_world.specs.declared.run.ReplayEnd.TheVariants as ending
use Rattle.wal_world.specs.declared.run.ReplayError.{ReplayError}
use Rattle.wal_world.specs.declared.run.ReplayError.TheVariants as failing
use Rattle.wal_protocol.proofs.Agreement.{last}

-- what stands after the first events, where none of their lines is a collision: a run of them that led to this state
pub record IsRunning (r : Rules) (schedule : Schedule) (count : ℕ) (w : World) : Type 0 where
  pub states : List World
  pub lines : List Line
  pub runs : Runs r (first_state schedule) (take count schedule.events) states lines
  pub goes_on : GoesOn lines
  pub at : last (first_state schedule) states ≡ w

-- and its report
pub record IsReplaying (r : Rules) (schedule : Schedule) (count : ℕ) (old now : Option (List ℕ)) (w : World) : Type 0 where
  pub run : IsRunning r schedule count w
  pub wrote : Appends old now (report_of run.lines)

-- a count that rose since a later moment rose since an earlier one
rose_since : {a b c : ℕ} → a ≤ b → Rose b c → Rose a c
rose_since less (inl more) = inl (omega arith)
rose_since less (inr most) = inr most

report_push : (lines : List Line) (said : Line) → report_of (lines ++ said ∷ []) ≡ report_of lines ++ line_text said
report_push lines said = flat_map-append line_text lines (said ∷ []) ∙ ap (λ t. report_of lines ++ t) (append-nil (line_text said))

-- the event of a place, and those before and after it
pub record IsEventAt (events : List Event) (i : ℕ) (event : Event) : Type 0 where
  pub split : events ≡ take i events ++ event ∷ drop (i + 1) events
  pub grows : take (i + 1) events ≡ take i events ++ event ∷ []
  pub below : i < length events

pub event_at : {events items : List Event} {i : ℕ} {event : Event} → items ≡ events → i < length items → event ≡ get_or items i event → IsEventAt events i event
event_at {events} {items} {i} {event} same below is =
    let here = subst (λ (l : List Event). get_or l i event ≡ event) same (sym is) in
    let less = subst (λ (l : List Event). i < length l) same below in
    let grows : take (i + 1) events ≡ take i events ++ event ∷ [] = take_more events i event less ∙ ap (λ (x : Event). take i events ++ x ∷ []) here in
    record {
      split = sym (take-append-drop (i + 1) events) ∙ ap (λ (l : List Event). l ++ drop (i + 1) events) grows ∙ append_assoc (take i events) (event ∷ []) (drop (i + 1) events);
      grows = grows;
      below = less;
    }

-- all events
pub all_events : {events items : List Event} {i : ℕ} → items ≡ events → length items ≤ i → take i events ≡ events
all_events {events} {items} {i} same past = rw same at (take_all i items past)

module _ {r : Rules} {s : Schedule} where
  abbrev pub running_first : {w : World} → w ≡ first_state s → IsRunning r s 0 w
  running_first same = record { states = []; lines = []; runs = tt; goes_on = tt; at = sym same }

  -- one more event was taken
  abbrev pub running_more : {count : ℕ} {event : Event} (said : Line) {w : World} (new : World) → IsRunning r s count w → IsEventAt s.events count event
      → Steps r w event said new → is_collision said ≡ false → IsRunning r s (count + 1) new
  running_more {count} {event} said {w} new is at step goes = record {
    states = is.states ++ new ∷ [];
    lines = is.lines ++ said ∷ [];
    runs = subst (λ (events : List Event). Runs r (first_state s) events (is.states ++ new ∷ []) (is.lines ++ said ∷ [])) (sym at.grows)
        (runs_push r (first_state s) (take count s.events) is.states is.lines event said new is.runs is.goes_on (subst (λ (x : World). Steps r x event said new) (sym is.at) step));
    goes_on = goes_on_push is.lines said is.goes_on goes;
    at = last_push (first_state s) is.states new;
  }

-- a run of the schedule is its lines
pub are_lines : (digest : List ℕ → List ℕ) → ((text : List ℕ) → length (digest text) ≡ 32) → (s : Schedule) → IsSchedule s → (states : List World) (lines : List Line)
    → Runs (rules_of digest s.f) (first_state s) s.events states lines → AreLines digest s lines
are_lines digest size s fit states lines run = record {
  states = states;
  run = run;
  safe = run_safe digest size s states lines fit run;
  recovered = run_recovers digest size s states lines fit run;
}

events_take : (n count : ℕ) (events : List Event) → AllByRecursion (IsEventWithin n) events → AllByRecursion (IsEventWithin n) (take count events)
events_take n zero events all = tt
events_take n (suc count) [] all = tt
events_take n (suc count) (event ∷ events) all = (all.0, events_take n count events all.1)

-- a run of the first events is their lines
first_lines : (digest : List ℕ → List ℕ) → ((text : List ℕ) → length (digest text) ≡ 32) → (s : Schedule) → IsSchedule s → (count : ℕ) → count ≤ length s.events → (states : List World)
    → (lines : List Line) → Runs (rules_of digest s.f) (first_state s) (take count s.events) states lines → AreFirstLines digest s lines
first_lines digest size s fit count some states lines run =
    let few : length (take count s.events) ≤ 65536 = omega (arith, fit.count, length-take count s.events) in
    let each = events_take (committee_size s.f) count s.events fit.each in
    let fits : IsSchedule (front_of s count) = assumption in
    record { count = count; some = some; of_front = are_lines digest size (front_of s count) fits states lines run }

module _ {digest : List ℕ → List ℕ} (size : (text : List ℕ) → length (digest text) ≡ 32) {s : Schedule} (fit : IsSchedule s) where
  -- all events were taken
  pub run_whole : {count : ℕ} {w : World} (is : IsRunning (rules_of digest s.f) s count w) → take count s.events ≡ s.events → AreLines digest s is.lines
  run_whole is all =
      are_lines digest size s fit is.states is.lines (subst (λ (events : List Event). Runs (rules_of digest s.f) (first_state s) events is.states is.lines) all is.runs)

  -- the last one gave a collision
  abbrev pub run_stopped : {count : ℕ} {event : Event} (said : Line) {w : World} (new : World) (is : IsRunning (rules_of digest s.f) s count w) → IsEventAt s.events count event
      → Steps (rules_of digest s.f) w event said new → is_collision said ≡ true → AreLines digest s (is.lines ++ said ∷ []) × EndsInCollision (is.lines ++ said ∷ [])
  run_stopped {count} {event} said new is place step stops =
      let r = rules_of digest s.f in
      let states = is.states ++ new ∷ [] in
      let lines = is.lines ++ said ∷ [] in
      let at = subst (λ (x : World). Steps r x event said new) (sym is.at) step in
      let runs = runs_stop r (first_state s) (take count s.events) is.states is.lines event (drop (count + 1) s.events) said new is.runs is.goes_on at stops in (
        are_lines digest size s fit states lines (subst (λ (events : List Event). Runs r (first_state s) events states lines) (sym place.split) runs),
        record { front = is.lines; said = said; whole = refl; collision = stops; goes_on = is.goes_on },
      )

-- a part of the second of two texts, after the first
part_after : (a b c : Option (List ℕ)) (first second : List ℕ) → Appends a b first → AppendsPart b c second → AppendsPart a c (first ++ second)
part_after a b c first second whole p =
    let long : length first + p.0 < length (first ++ second) = omega (arith, p.1, length-append first second) in
    (length first + p.0, long, subst (Appends a c) (sym (take-append-add first second p.0)) (Appends-trans a b c first (take p.0 second) whole p.2))

-- ---- what was written beside them

module _ {digest : List ℕ → List ℕ} {s : Schedule} where
  pub replaying_first : {old : Option (List ℕ)} {w : World} → w ≡ first_state s → IsReplaying (rules_of digest s.f) s 0 old old w
  replaying_first {old} same = record { run = running_first same; wrote = Appends-nil old }

  -- one more event was taken, by the committee's own number of faults, and its line written
  pub replaying_more : {count f : ℕ} {event : Event} {old mid now : Option (List ℕ)} {w new : World} {stops : Bool} → IsReplaying (rules_of digest s.f) s count old mid w → IsEventAt s.events count event
      → f ≡ s.f → Takes (rules_of digest f) w event new mid now ⊥ (Ok stops) → stops ≡ false → IsReplaying (rules_of digest s.f) s (count + 1) old now new
  replaying_more {old} {mid} {now} {new} is at same takes goes =
      let t = rw same at takes in
      record {
        run = running_more t.0 new is.run at t.1 (t.2 ∙ goes);
        wrote = subst (Appends old now) (sym (report_push is.run.lines t.0)) (Appends-trans old mid now (report_of is.run.lines) (line_text t.0) is.wrote t.3);
      }

  module _ (size : (text : List ℕ) → length (digest text) ≡ 32) (fit : IsSchedule s) (now : Option (List ℕ)) where
    pub replays_whole : {count : ℕ} {old : Option (List ℕ)} {w : World} → IsReplaying (rules_of digest s.f) s count old now w → take count s.events ≡ s.events → Replays digest s old now ⊥ (Ok ending.Whole)
    replays_whole is all = (is.run.lines, run_whole size fit is.run all, is.run.goes_on, is.wrote)

    pub replays_stopped : {count f : ℕ} {event : Event} {old mid : Option (List ℕ)} {w : World} (new : World) {stops : Bool} → IsReplaying (rules_of digest s.f) s count old mid w → IsEventAt s.events count event
        → f ≡ s.f → Takes (rules_of digest f) w event new mid now ⊥ (Ok stops) → stops ≡ true → Replays digest s old now ⊥ (Ok ending.Collision)
    replays_stopped {old} {mid} new is at same takes is_stop =
        let t = rw same at takes in
        let h = run_stopped size fit t.0 new is.run at t.1 (t.2 ∙ is_stop) in
        let wrote = Appends-trans old mid now (report_of is.run.lines) (line_text t.0) is.wrote t.3 in
        (is.run.lines ++ t.0 ∷ [], h.0, h.1, subst (Appends old now) (sym (report_push is.run.lines t.0)) wrote)

    -- one more event could not be taken, or its line not be written
    failed : {count : ℕ} {event : Event} {old mid : Option (List ℕ)} {w : World} {before between : ℕ} (new : World) (after : ℕ) (e : ReplayError) → IsReplaying (rules_of digest s.f) s count old mid w
        → IsEventAt s.events count event → Takes (rules_of digest s.f) w event new mid now (Rose between after) (Err e) → before ≤ between → Replays digest s old now (Rose before after) (Err e)
    failed {count} {old} {mid} new after failing.Memory is at kept later =
        let run = is.run in (
          run.lines,
          first_lines digest size s fit count (omega (arith, at.below)) run.states run.lines run.runs,
          run.goes_on,
          inl (omega (arith, runs_each (rules_of digest s.f) (first_state s) (take count s.events) run.states run.lines run.runs run.goes_on, length-take count s.events, at.below)),
          Appends-kept old mid now (report_of run.lines) is.wrote kept,
        )
    failed {count} {event} {old} {mid} new after failing.WriteFault is at t later =
        let r = rules_of digest s.f in
        let step = subst (λ (x : World). Steps r x event t.0 t.1) (sym is.run.at) t.2 in
        let states = is.run.states ++ t.1 ∷ [] in
        let lines = is.run.lines ++ t.0 ∷ [] in
        let runs = runs_push r (first_state s) (take count s.events) is.run.states is.run.lines event t.0 t.1 is.run.runs is.run.goes_on step in
        let part = part_after old mid now (report_of is.run.lines) (line_text t.0) is.wrote t.4 in (
          lines,
          first_lines digest size s fit (count + 1) (omega (arith, at.below)) states lines (subst (λ (events : List Event). Runs r (first_state s) events states lines) (sym at.grows) runs),
          rose_since later t.3,
          subst (AppendsPart old now) (sym (report_push is.run.lines t.0)) part,
        )

    -- and the failure was passed on
    pub replays_failed : {count f : ℕ} {event : Event} {old mid : Option (List ℕ)} {w : World} {before between : ℕ} (new : World) (after : ℕ) (e : ReplayError) (result : Result ReplayEnd ReplayError)
        → IsErrAnd result (λ x. x ≡ e) → IsReplaying (rules_of digest s.f) s count old mid w → IsEventAt s.events count event → f ≡ s.f
        → Takes (rules_of digest f) w event new mid now (Rose between after) (Err e) → before ≤ between → Replays digest s old now (Rose before after) result
    replays_failed new after e (Ok x) cause is at same takes later = absurd cause
    replays_failed {event} {mid} {w} {between} new after e (Err x) cause is at same takes later =
        let own = subst (λ (f : ℕ). Takes (rules_of digest f) w event new mid now (Rose between after) (Err e)) same takes in
        rw cause (failed new after e is at own later)

-- nothing was taken
pub replays_nothing : (digest : List ℕ → List ℕ) → ((text : List ℕ) → length (digest text) ≡ 32) → (s : Schedule) → IsSchedule s → (old : Option (List ℕ)) (SinkRose : Type 0) (result : Result ReplayEnd ReplayError)
    → IsErrAnd result (λ e. e ≡ failing.Memory) → Replays digest s old old SinkRose result
replays_nothing digest size s fit old SinkRose (Ok x) cause = absurd cause
replays_nothing digest size s fit old SinkRose (Err e) cause =
    rw cause ([], first_lines digest size s fit 0 (omega arith) [] [] tt, tt, inr refl, Appends-nil old)

-- a line that was written in part
pub taken_in_part : (r : Rules) (old : World) (event : Event) (new : World) (before after : Option (List ℕ)) (Late : Type 0) (result : Result Bool ReplayError) (said : Line) (text shown : List ℕ)
    → IsErrAnd result (λ e. e ≡ failing.WriteFault) → Steps r old event said new → text ≡ line_text said → shown ≡ text → Late → (count : ℕ) × (count < length shown) × Appends before after (take count shown)
    → Takes r old event new before after Late result
taken_in_part r old event new before after Late (Ok x) said text shown cause step told lent rose part = absurd cause
taken_in_part r old event new before after Late (Err e) said text shown cause step told lent rose part = rw cause (said, new, step, rose, rw (lent, told) at part)
