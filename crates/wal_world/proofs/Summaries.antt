-- Summaries, event by event.
use Rattle.wal_world.proofs.Common.{◌≡◌, ℕ, ◌+◌, ◌<◌, ◌≤◌, List, [], ◌∷◌, ◌++◌, length, length-take, take, btree_set_len, is_some, Option, Some, None, ap, arith, Collision, IsSchedule, Event, Schedule, Line, World, Rules, first_state, is_collision, rules_of, IsSummary, IsSummed, collision_in, IsTallied, IsTally, Summary, Tally, runs_each}
use Rattle.wal_event.specs.declared.line.Line.TheVariants as line
use Rattle.wal_world.specs.declared.summary.Summed.TheVariants as summed
use Rattle.wal_world.proofs.Replaying.{IsEventAt, IsRunning, run_stopped, run_whole, running_first, running_more}
use Rattle.wal_world.proofs.Tallies.{few_certified, has_room, HasRoom}

-- a line is a collision where it has two texts
pub stops_at : (said : Line) (o : Option Collision) → collision_in said ≡ o → is_collision said ≡ is_some o
stops_at (line.Collision left right) o is = ap (λ (c : Option Collision). is_some c) is
stops_at said o is = ap (λ (c : Option Collision). is_some c) is

-- and those are its texts
said_texts : (said : Line) (c : Collision) → collision_in said ≡ Some c → said ≡ line.Collision c.left c.right
said_texts (line.Collision left right) c is = cc
said_texts said c is = cc

-- what stands after the first events, where none of their lines is a collision: a run of them that led to this state, and the tally of its lines
pub record IsSumming (r : Rules) (schedule : Schedule) (count : ℕ) (w : World) (t : Tally) : Type 0 where
  pub run : IsRunning r schedule count w
  pub counted : IsTally run.lines t

module _ {r : Rules} {s : Schedule} where
  -- before the first event the tally of no lines is right
  pub summing_first : {w : World} {t : Tally} → w ≡ first_state s → IsTally [] t → IsSumming r s 0 w t
  summing_first same none = record { run = running_first same; counted = none }

  -- no more lines than events so far
  summing_few : {count : ℕ} {w : World} {t : Tally} (is : IsSumming r s count w t) → length is.run.lines ≡ length (take count s.events)
  summing_few {count} is = runs_each r (first_state s) (take count s.events) is.run.states is.run.lines is.run.runs is.run.goes_on

  -- one more line can be counted
  pub summing_room : {items : List Event} {count : ℕ} {w : World} {t : Tally} → IsSumming r s count w t → items ≡ s.events → count < length items → length s.events ≤ 65536 → HasRoom t
  summing_room {count = count} {t = t} is same below few =
      has_room is.run.lines t is.counted (omega (arith, summing_few is, length-take count s.events, ap (λ (l : List Event). length l) same, below, few))

  pub summing_certified : {count : ℕ} {w : World} {t : Tally} → IsSumming r s count w t → length s.events ≤ 65536 → btree_set_len t.certified ≤ 65536
  summing_certified {count} {t = t} is few = few_certified is.run.lines t is.counted (omega (arith, summing_few is, length-take count s.events, few))

module _ {digest : List ℕ → List ℕ} {s : Schedule} where
  -- one more event was taken, by the committee's own number of faults
  pub summing_more : {count f : ℕ} {event : Event} {w new : World} {before after : Tally} {o : Option Collision} → IsSumming (rules_of digest s.f) s count w before → IsEventAt s.events count event → f ≡ s.f
      → o ≡ None → IsTallied (rules_of digest f) w event new before after o → IsSumming (rules_of digest s.f) s (count + 1) new after
  summing_more {new = new} is at same none tallied =
      let t = rw (same, none) at tallied in
      record { run = running_more t.said new is.run at t.step (stops_at t.said None t.collision); counted = t.counts is.run.lines is.counted }

  module _ (size : (text : List ℕ) → length (digest text) ≡ 32) (fit : IsSchedule s) where
    -- all events were taken
    pub summed_whole : {count : ℕ} {w : World} {t : Tally} {sum : Summary} → IsSumming (rules_of digest s.f) s count w t → take count s.events ≡ s.events
        → ((lines : List Line) → IsTally lines t → IsSummary lines sum) → IsSummed digest s (summed.Whole sum)
    summed_whole is all sums = (is.run.lines, run_whole size fit is.run all, is.run.goes_on, sums is.run.lines is.counted)

    -- the last one gave a collision
    pub summed_collision : {count f : ℕ} {event : Event} {w new : World} {before after : Tally} {o : Option Collision} (c : Collision) → IsSumming (rules_of digest s.f) s count w before
        → IsEventAt s.events count event → f ≡ s.f → o ≡ Some c → IsTallied (rules_of digest f) w event new before after o → IsSummed digest s (summed.Collision c)
    summed_collision {new = new} c is at same some tallied =
        let t = rw (same, some) at tallied in
        let h = run_stopped size fit t.said new is.run at t.step (stops_at t.said (Some c) t.collision) in
        (is.run.lines ++ t.said ∷ [], h.0, h.1, said_texts t.said c t.collision)
