-- A schedule has the lines of one run, and one that ends in a collision shows two texts with one digest.
use Rattle.wal_run.proofs.Common.{truth, ◌≡◌, ◌∙◌, ⊎_elim, apart_left, ℕ, ◌++◌, List, length, length-append, [], ◌∷◌, true, false, codes, arith, refl, ap, subst, false≢true, IsCollision, Event, Schedule, Line, hex_text, line_text, Rules, World, Steps, GoesOn, Runs, first_state, is_collision, AreLines, EndsInCollision, SameLines, not_going, one_run, rules_of, only_rules, collision_text}
use Rattle.wal_event.specs.declared.event.Event.TheVariants as event
use Rattle.wal_event.specs.declared.line.Line.TheVariants as line

-- the two texts of a line that is a collision are one
abbrev ShowsClash : Rules → Line → Type 0
ShowsClash r (line.Collision left right) = r.IsCollision left right
ShowsClash r _ = Unit {0}

shown : (r : Rules) (old : World) (e : Event) (said : Line) (new : World) → Steps r old e said new → ShowsClash r said
shown r old event.Finish (line.Collision left right) new step = step.0
shown r old e (line.Collision left right) new step = step.0
shown r old e said new step = tt

-- the last line of a run shows it
pub shown_last : (r : Rules) (events : List Event) (states : List World) (front : List Line) (said : Line) (old : World) → Runs r old events states (front ++ said ∷ []) → ShowsClash r said
shown_last r [] [] [] said old run = absurd run
shown_last r [] (new ∷ states) [] said old run = absurd run
shown_last r (e ∷ events) [] [] said old run = absurd run
shown_last r (e ∷ events) (new ∷ states) [] said old run = shown r old e said new run.0
shown_last r (e ∷ events) (new ∷ states) (one ∷ front) said old run =
    ⊎_elim
    (λ stops.
    let stop = rw stops at run.1 in
    absurd (omega (arith, ap length stop.1, length-append front (said ∷ []))))
    (λ goes. shown_last r events states front said new (rw goes at run.1)) (truth (is_collision one))
shown_last r events states front said old run = absurd run

pub collision_line : (said : Line) → is_collision said ≡ true → (left : List ℕ) × (right : List ℕ) × (said ≡ line.Collision left right)
collision_line (line.Collision left right) is = (left, right, refl)
collision_line said is = absurd (false≢true is)

-- the two texts of the last line have one digest
pub ends_with : (digest : List ℕ → List ℕ) (schedule : Schedule) (lines : List Line) (left right : List ℕ)
    → AreLines digest schedule lines
    → (ends : EndsInCollision lines) → ends.said ≡ line.Collision left right → IsCollision digest left right
ends_with digest schedule lines left right are ends said =
    let whole = rw said at ends.whole in
    shown_last (rules_of digest schedule.f) schedule.events are.states ends.front (line.Collision left right)
    (first_state schedule) (rw whole at are.run)

-- the lines of a schedule that end in a collision, with its two texts
pub record EndsIn (digest : List ℕ → List ℕ) (schedule : Schedule) (lines : List Line) : Type 0 where
  pub left : List ℕ
  pub right : List ℕ
  pub front : List Line
  pub whole : lines ≡ front ++ line.Collision left right ∷ []
  pub goes : GoesOn front
  pub collides : IsCollision digest left right

pub ends_in : (digest : List ℕ → List ℕ) (schedule : Schedule) (lines : List Line) → AreLines digest schedule lines → (ends : EndsInCollision lines) → EndsIn digest schedule lines
ends_in digest schedule lines are ends =
    let said = collision_line ends.said ends.collision in
    record {
      left = said.0;
      right = said.1;
      front = ends.front;
      whole = rw said.2 at ends.whole;
      goes = ends.goes_on;
      collides = ends_with digest schedule lines said.0 said.1 are ends said.2;
    }

module _ (digest : List ℕ → List ℕ) (schedule other : Schedule) (xs ys : List Line) (is : schedule ≡ other)
    (a : AreLines digest schedule xs) (b : AreLines digest other ys) where
  -- the lines of a schedule are those of one run
  pub same_lines : SameLines xs ys
  same_lines =
      let here = rw is at a in
      one_run (rules_of digest other.f) (only_rules digest other.f) other.events here.states b.states xs ys
      (first_state other) here.run b.run

  -- all the same where one of them does not collide
  pub one_going : GoesOn xs → xs ≡ ys
  one_going goes = ⊎_elim (λ equal. equal) (λ apart. absurd (apart_left xs ys apart goes)) same_lines

  -- and then none of them does
  pub not_stopped : GoesOn xs → EndsInCollision ys → ⊥
  not_stopped goes ends =
      not_going ends.front ends.said (subst GoesOn (one_going goes ∙ ends.whole) goes) ends.collision

-- the line of a collision is that of its two texts
joined : (c l s r n : List ℕ) → (c ++ l ++ s ++ r) ++ n ≡ c ++ l ++ s ++ r ++ n
joined c l s r n = grind arith

pub clash_line : (left right : List ℕ) → line_text (line.Collision left right) ≡ collision_text left right
unfolding line_text
clash_line left right = joined (codes "collision ") (hex_text left) (codes " ") (hex_text right) (codes "\n")
