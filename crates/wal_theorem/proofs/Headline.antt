-- The theorem over every schedule, by what frames, blobs, holdings, reads and recoveries are.
use Rattle.wal_theorem.proofs.Common.{◌≡◌, ℕ, ◌≤◌, List, length, refl, IsEventWithin, IsSchedule, Event, Schedule, Line, committee_size, World, Steps, first_state, IsRun, Facts, rules_of, facts_step, facts_first, safe, recoveries}
use Rattle.wal_protocol.specs.Safe.{EachStep, IsSafe, IsRecoveryComplete}
use Rattle.wal_theorem.proofs.InstanceLaws.{laws_of}

module _ (digest : List ℕ → List ℕ) (size : (text : List ℕ) → length (digest text) ≡ 32) where
  -- every run of a schedule is safe
  pub run_safe : (s : Schedule) (states : List World) (lines : List Line) → IsSchedule s → IsRun (rules_of digest s.f) s states lines → IsSafe (rules_of digest s.f) s states lines
  run_safe s states lines fit run = safe (rules_of digest s.f) (laws_of digest size s.f fit.most) s states lines fit refl run

  -- and a shard that hears enough others recovers its sliver, or learns that the blob is badly encoded
  pub run_recovers : (s : Schedule) (states : List World) (lines : List Line) → IsSchedule s → IsRun (rules_of digest s.f) s states lines → EachStep IsRecoveryComplete (first_state s) s.events states lines
  run_recovers s states lines fit run = recoveries (rules_of digest s.f) (laws_of digest size s.f fit.most) s states lines fit refl run

  -- the facts hold in the first state, and each step keeps them
  pub facts_start : (s : Schedule) → IsSchedule s → Facts (rules_of digest s.f) (first_state s)
  facts_start s fit = facts_first (rules_of digest s.f) (laws_of digest size s.f fit.most) s fit refl

  -- a step keeps the facts
  pub facts_kept : (f : ℕ) → f ≤ 333 → (old : World) (event : Event) (said : Line) (new : World) → Facts (rules_of digest f) old → IsEventWithin (committee_size old.log.f) event
      → Steps (rules_of digest f) old event said new → Facts (rules_of digest f) new
  facts_kept f few old event said new facts fit step = facts_step (rules_of digest f) (laws_of digest size f few) old event said new facts fit step
