-- The lines of a schedule's first events are the first lines of the whole schedule.
use Rattle.wal_run.proofs.Common.{◌≡◌, ◌⊎◌, inl, inr, ⊎_elim, ℕ, suc, truth, List, [], ◌∷◌, ◌++◌, append-nil, take, refl, sym, ap, subst, ◌∙◌, Event, Schedule, Line, SameUpToCollision, Rules, World, GoesOn, Runs, first_state, is_collision, apart_left, apart_right, one_run, rules_of, AreFirstLines, AreLines, only_rules}

-- a run of these events, whose lines are the first of these, and all of them where one is a collision
record Begins (r : Rules) (old : World) (events : List Event) (lines : List Line) : Type 0 where
  states : List World
  first : List Line
  rest : List Line
  run : Runs r old events states first
  whole : lines ≡ first ++ rest
  stops : GoesOn first ⊎ (rest ≡ [])

module _ (r : Rules) where
  begins : (count : ℕ) (events : List Event) (states : List World) (lines : List Line) (old : World) → Runs r old events states lines
      → Begins r old (take count events) lines
  begins (suc count) (event ∷ events) (new ∷ states) (said ∷ lines) old run =
      ⊎_elim
      (λ stops.
      let none = rw stops at run.1 in
      record {
        states = new ∷ [];
        first = said ∷ [];
        rest = [];
        run = (run.0, rw stops (refl, refl));
        whole = ap (λ (xs : List Line). said ∷ xs) none.1;
        stops = inr refl;
      })
      (λ goes.
      let at = begins count events states lines new (rw goes at run.1) in
      record {
        states = new ∷ at.states;
        first = said ∷ at.first;
        rest = at.rest;
        run = (run.0, rw goes at.run);
        whole = ap (λ (xs : List Line). said ∷ xs) at.whole;
        stops = ⊎_elim (λ calm. inl (goes, calm)) (λ nil. inr nil) at.stops;
      }) (truth (is_collision said))
  begins (suc count) (event ∷ events) states lines old run = absurd run
  begins count events states lines old run = record { states = []; first = []; rest = lines; run = tt; whole = refl; stops = inl tt }

goes_left : (xs ys : List Line) → GoesOn (xs ++ ys) → GoesOn xs
goes_left [] ys goes = tt
goes_left (x ∷ xs) ys goes = (goes.0, goes_left xs ys goes.1)

module _ (digest : List ℕ → List ℕ) (schedule : Schedule) (lines whole : List Line) (few : AreFirstLines digest schedule lines) (all : AreLines digest schedule whole) where
  abbrev Continues : Type 0
  Continues = (rest : List Line) × (whole ≡ lines ++ rest)

  begun : Begins (rules_of digest schedule.f) (first_state schedule) (take few.count schedule.events) whole
  begun = begins (rules_of digest schedule.f) few.count schedule.events all.states whole (first_state schedule) all.run

  compared : Continues ⊎ SameUpToCollision lines begun.first
  compared =
      ⊎_elim
      (λ same. inl (begun.rest, begun.whole ∙ ap (λ (xs : List Line). xs ++ begun.rest) (sym same)))
      (λ apart. inr apart)
      (one_run (rules_of digest schedule.f) (only_rules digest schedule.f) (take few.count schedule.events) few.of_front.states begun.states lines begun.first
      (first_state schedule) few.of_front.run begun.run)

  -- where none of the first lines is a collision
  pub first_lines : GoesOn lines → Continues
  first_lines goes = ⊎_elim (λ at. at) (λ apart. absurd (apart_left lines begun.first apart goes)) compared

  -- where none of all lines is
  pub first_of_going : GoesOn whole → Continues
  first_of_going goes =
      ⊎_elim
      (λ at. at)
      (λ apart. absurd (apart_right lines begun.first apart (goes_left begun.first begun.rest (subst GoesOn begun.whole goes)))) compared

  -- behind a collision there are no lines
  whole_too : SameUpToCollision lines begun.first → SameUpToCollision lines whole
  whole_too apart =
      let nil : begun.rest ≡ [] = ⊎_elim (λ goes. absurd (apart_right lines begun.first apart goes)) (λ none. none) begun.stops in
      let all_begun : whole ≡ begun.first = begun.whole ∙ ap (λ (xs : List Line). begun.first ++ xs) nil ∙ append-nil begun.first in
      subst (SameUpToCollision lines) (sym all_begun) apart

  pub first_or_clash : Continues ⊎ SameUpToCollision lines whole
  first_or_clash = ⊎_elim (λ at. inl at) (λ apart. inr (whole_too apart)) compared
