-- A schedule begins in a world of bytes, and its events leave one.
use Rattle.wal_theorem.proofs.Common.{ℕ, List, get_or, refl, arith, ⊎_elim, cases_lt, metadata_text, proof_text, Basis, Slivers, Fits, IsSchedule, IsEventWithin, Event, Schedule, Line, committee_size, First, Judged, Written, World, Steps, first_state, Facts, Possible, HasBytes, surely, then, every_event, one_step, facts_first, facts_step, rules_of, BasisOfBytes, FirstOfBytes, WorldOfBytes, IsDigest, Proof, AreBytes}
use Rattle.wal_theorem.proofs.ByteRules.{byte_rules, byte_laws}
use Rattle.wal_theorem.proofs.EveryRun.{bytes_facts, plain_step, total_of}
use Rattle.wal_theorem.proofs.Headline.{facts_start, facts_kept}
use Rattle.wal_theorem.proofs.OneWorld.{only_rules}

-- ---- what is possibly bytes is bytes

sure_bytes : (text : List ℕ) → Possible (AreBytes text) → AreBytes text
sure_bytes text are i =
    ⊎_elim (λ small. small) (λ large. absurd (are (λ all. let small = all i in omega (arith, small, large)))) (cases_lt (get_or text i 0) 256)

sure_basis : (b : Basis) → Possible (BasisOfBytes b) → BasisOfBytes b
sure_basis (Slivers indices joined) are = tt
sure_basis (Proof p) are = sure_bytes (proof_text p) are

sure_first : (a : First) → Possible (FirstOfBytes a) → FirstOfBytes a
sure_first (Judged evidence verdict) are =
    (sure_bytes (metadata_text evidence.metadata) (then are (λ both. surely both.0)), sure_basis evidence.basis (then are (λ both. surely both.1)))
sure_first (Written bytes) are = tt

sure_world : (w : World) → Possible (WorldOfBytes w) → WorldOfBytes w
sure_world w are = record {
  parts = λ side s id part text at. sure_bytes text (then are (λ all. surely (all.parts side s id part text at)));
  answers = λ id a at. sure_first a (then are (λ all. surely (all.answers id a at)));
}

-- ---- worlds of bytes

module _ (digest : List ℕ → List ℕ) (is : IsDigest digest) where
  facts_bytes : (f : ℕ) (w : World) → Facts (byte_rules digest f) w → WorldOfBytes w
  facts_bytes f w facts = record { parts = λ side s id. (facts.sound side s id).1; answers = λ id a at. (facts.answers id a at).1 }

  -- at the start the facts hold and all is bytes
  pub bytes_start : (s : Schedule) → IsSchedule s → Facts (rules_of digest s.f) (first_state s) × WorldOfBytes (first_state s)
  bytes_start s fit = (facts_start digest is.size s fit, facts_bytes s.f (first_state s) (facts_first (byte_rules digest s.f) (byte_laws digest is.size s.f fit.most) s fit refl))

  -- a step keeps the facts, and that all is bytes
  pub bytes_kept : (f : ℕ) (old : World) (event : Event) (said : Line) (new : World) → Facts (rules_of digest f) old → WorldOfBytes old → Fits f event → HasBytes event
      → Steps (rules_of digest f) old event said new → Facts (rules_of digest f) new × WorldOfBytes new
  bytes_kept f old event said new facts bytes fits are step =
      let b = byte_rules digest f in
      let laws = byte_laws digest is.size f fits.most in
      let own = bytes_facts digest is f old facts bytes in
      let within : IsEventWithin (committee_size old.log.f) event = rw facts.sized_f fits.within in (
        facts_kept digest is.size f fits.most old event said new facts within step,
        sure_world new
            (then (every_event b laws (total_of digest is f fits.least fits.most) old event own within are) (λ other.
            let kept = facts_step b laws old event other.0 other.1 own within other.2 in
            let plain = plain_step digest is f old event other.0 other.1 other.2 in
            let same =
            one_step (rules_of digest f) (only_rules digest f) old event said other.0 new other.1 step plain in
            surely (rw same.1 (facts_bytes f other.1 kept)))),
      )
