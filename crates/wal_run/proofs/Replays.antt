-- What a replay comes to is one result of the command that replays.
use Rattle.wal_run.proofs.Common.{◌≡◌, ◌⊎◌, inl, inr, ⊎_elim, ℕ, true, append-nil, List, [], ◌∷◌, ◌++◌, Option, Ok, refl, sym, ap, subst, ◌∙◌, arith, flat_map-append, MetaClash, Schedule, Line, line_text, report_of, IsRead, SameUpToCollision, GoesOn, is_collision, AreFirstLines, AreLines, EndsInCollision, IsFrontOf, IsFrontUpToClash, IsResult, MayLeave, MayOwe, Told, collides, collision_text, IsReport, replaying, stopped, unfinished, Does, DoesTold}
use Rattle.wal_event.specs.declared.line.Line.TheVariants as line
use Rattle.wal_run.specs.Replaying.{whole}
use Rattle.wal_run.specs.SameText.{line as in_line}
use Rattle.wal_run.proofs.CommandLaws.{Determined, Same, both_collide, same}
use Rattle.wal_run.proofs.Endings.{does_spelled}
use Rattle.wal_run.proofs.RunCollisions.{clash_line, collision_line, ends_in, not_stopped, one_going, same_lines}
use Rattle.wal_run.proofs.FirstLines.{first_lines, first_of_going, first_or_clash}

-- ---- the lines of the first events are the first of all lines

-- the text of a report ends with that of its collision
pub clash_last : (lines : List Line) (left right : List ℕ) → report_of (lines ++ line.Collision left right ∷ []) ≡ report_of lines ++ collision_text left right
clash_last lines left right =
    flat_map-append line_text lines (line.Collision left right ∷ []) ∙ ap (λ (t : List ℕ). report_of lines ++ t) (append-nil (line_text (line.Collision left right)) ∙ clash_line left right)

front_text : (lines xs rest : List Line) → xs ≡ lines ++ rest → IsFrontOf (report_of lines) (report_of xs)
front_text lines xs rest is = (report_of rest, ap report_of is ∙ flat_map-append line_text lines rest)

-- the two texts of the last line, behind the lines before it
last_told : (lines front : List Line) (said : Line) → is_collision said ≡ true → lines ≡ front ++ said ∷ []
    → (clash : MetaClash) × (report_of lines ≡ report_of front ++ collision_text clash.left clash.right)
last_told lines front said is ends =
    let two = collision_line said is in (
      record { left = two.0; right = two.1 },
      ap report_of ends ∙ ap (λ (l : Line). report_of (front ++ l ∷ [])) two.2 ∙ clash_last front two.0 two.1,
    )

-- of lines that end in a collision, as all lines do, those before it are one
clash_front : (lines all : List Line) → ((rest : List Line) × (all ≡ lines ++ rest)) ⊎ SameUpToCollision lines all
    → IsFrontUpToClash in_line 10 (report_of lines) (report_of all)
clash_front lines all (inl at) = inl (front_text lines all at.0 at.1)
clash_front lines all (inr apart) =
    let one = last_told lines apart.front apart.one apart.collides apart.ends in
    let other = last_told all apart.front apart.other apart.collides_too apart.ends_too in
    inr (refl, record { front = report_of apart.front; clash = one.0; other = other.0; ends = one.1; ends_too = other.1 })

-- what is told is a whole report, or one that a collision stopped
module _ (digest : List ℕ → List ℕ) (schedule : Schedule) where
  abbrev Whole : ℕ → List ℕ → Type 0
  Whole s x = (lines : List Line) × AreLines digest schedule lines × GoesOn lines × (s ≡ 0) × (x ≡ report_of lines)

  abbrev Stopped : ℕ → List ℕ → Type 0
  Stopped s x = (lines : List Line) × AreLines digest schedule lines × EndsInCollision lines × (s ≡ 10) × (x ≡ report_of lines)

  of_report : (s : ℕ) (x : List ℕ) → IsReport digest schedule s x → (s ≡ 5 → ⊥) → Whole s x ⊎ Stopped s x
  of_report _ _ (whole lines are goes) through = inl (lines, are, goes, refl, refl)
  of_report _ _ (stopped front left right are goes clash) through =
      let said = line.Collision left right in
      let ends : EndsInCollision (front ++ said ∷ []) =
      record { front = front; said = said; whole = refl; collision = refl; goes_on = goes } in
      inr (front ++ said ∷ [], are, ends, refl, refl)
  of_report _ _ is through = absurd (through refl)

  -- what a schedule comes to is its report
  pub report_told : (s : ℕ) (x : List ℕ) → Told digest (replaying digest) schedule s x → IsReport digest schedule s x
  report_told s x told = grind arith

  not_five : (s : ℕ) (x : List ℕ) → Told digest (replaying digest) schedule s x → s ≡ 5 → ⊥
  not_five s x told five = grind arith

  replay_of : (s : ℕ) (x : List ℕ) → Told digest (replaying digest) schedule s x → Whole s x ⊎ Stopped s x
  replay_of s x told = of_report s x (report_told s x told) (not_five s x told)

  left_front : (u : ℕ) (text : List ℕ) → IsReport digest schedule u text → u ≡ 5 → (s : ℕ) (x : List ℕ) → Told digest (replaying digest) schedule s x → IsFrontOf text x
  left_front _ _ (unfinished lines few goes some) five s x told =
      let shown : (all : List Line) → AreLines digest schedule all → x ≡ report_of all → IsFrontOf (report_of lines) x = λ all are text.
      let at = first_lines digest schedule lines all few are goes in rw text (front_text lines all at.0 at.1) in
      ⊎_elim (λ is. shown is.0 is.1 is.4) (λ is. shown is.0 is.1 is.4) (replay_of s x told)
  left_front u text report five s x told = absurd (omega (arith, five))

  owed_front : (lines : List Line) → AreFirstLines digest schedule lines → (s : ℕ) (x : List ℕ) → Told digest (replaying digest) schedule s x
      → IsFrontUpToClash in_line s (report_of lines) x
  owed_front lines few s x told =
      ⊎_elim
      (λ is.
      let at = first_of_going digest schedule lines is.0 few is.1 is.2 in
      inl (rw is.4 (front_text lines is.0 at.0 at.1)))
      (λ is. rw (is.3, is.4) (clash_front lines is.0 (first_or_clash digest schedule lines is.0 few is.1)))
      (replay_of s x told)

  -- what is done by the schedule is done by the input that spells it
  pub done_spelled : (input : List ℕ) (old new : Option (List ℕ)) (SinkRose : Type 0) (status : ℕ) → IsRead input (Ok schedule)
      → DoesTold digest (replaying digest) schedule old new SinkRose status
      → Does (IsResult digest (replaying digest) input) (MayLeave digest (replaying digest) input) (MayOwe digest (replaying digest) input) old new SinkRose status
  done_spelled input old new SinkRose status is_read d =
      does_spelled digest (replaying digest) input schedule old new SinkRose status is_read (λ text left. left_front 5 text left refl)
      (λ text owed s x told. rw owed.2 (owed_front owed.0 owed.1 s x told)) d

  pub collision_told : (lines : List Line) → AreLines digest schedule lines → EndsInCollision lines → Told digest (replaying digest) schedule 10 (report_of lines)
  collision_told lines are ends =
      let at = ends_in digest schedule lines are ends in
      let text = clash_last at.front at.left at.right in
      let report = stopped at.front at.left at.right (rw at.whole at are) at.goes at.collides in
      subst (Told digest (replaying digest) schedule 10) (sym (ap report_of at.whole ∙ text))
      (collides at.left at.right (report_of at.front) at.collides (subst (IsReport digest schedule 10) text report))

-- ---- one result

module _ (digest : List ℕ → List ℕ) (schedule : Schedule) where
  one_of : (s : ℕ) (x : List ℕ) (t : ℕ) (y : List ℕ) → Whole digest schedule s x ⊎ Stopped digest schedule s x → Whole digest schedule t y ⊎ Stopped digest schedule t y → Same s x t y
  one_of s x t y (inl a) (inl b) =
      let equal = one_going digest schedule schedule a.0 b.0 refl a.1 b.1 a.2 in
      same s t x y (a.3 ∙ sym b.3) (a.4 ∙ ap report_of equal ∙ sym b.4)
  one_of s x t y (inl a) (inr b) = absurd (not_stopped digest schedule schedule a.0 b.0 refl a.1 b.1 a.2 b.2)
  one_of s x t y (inr a) (inl b) = absurd (not_stopped digest schedule schedule b.0 a.0 refl b.1 a.1 b.2 a.2)
  one_of s x t y (inr a) (inr b) =
      ⊎_elim
      (λ equal. same s t x y (a.3 ∙ sym b.3) (a.4 ∙ ap report_of equal ∙ sym b.4))
      (λ apart.
      let one = last_told a.0 apart.front apart.one apart.collides apart.ends in
      let other = last_told b.0 apart.front apart.other apart.collides_too apart.ends_too in
      both_collide s t x y (report_of apart.front) one.0 other.0 a.3 b.3 (a.4 ∙ one.1) (b.4 ∙ other.1))
      (same_lines digest schedule schedule a.0 b.0 refl a.1 b.1)

pub replayed_once : (digest : List ℕ → List ℕ) → Determined digest (replaying digest)
replayed_once digest input schedule spells s x t y a b = one_of digest schedule s x t y (replay_of digest schedule s x a) (replay_of digest schedule t y b)
