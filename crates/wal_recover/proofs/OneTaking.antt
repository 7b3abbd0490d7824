-- What an opening adds to those that were taken, by the flags of their crosses.
use Rattle.wal_recover.proofs.Common.{◌≡◌, ℕ, ◌<◌, List, [], ◌∷◌, ◌++◌, length, Bool, true, false, IsTrue, Contains, refl, sym, ◌∙◌, false≢true, Axis, Opening, BlobMetadata, HoldsOpening, crosses_of, Marks, marks_more, crosses_more, GivesOpening}
use Rattle.std.specs.Prelude.{slice_index_or, slice_set}
use Rattle.wal_evidence.specs.FirstOfEach.{Adds, adds, keeps}

-- what follows from a flag that cannot be down
flagged : (flag : Bool) (P : Type 0) → (IsTrue flag → P) → ((IsTrue flag → ⊥) → ⊥) → P
flagged true P up none = up refl
flagged false P up none = absurd (none false≢true)

module _ (digest : List ℕ → List ℕ) (m : BlobMetadata) (axis : Axis) (index most : ℕ) where
  abbrev AddsOpening : Opening → List Opening → List Opening → Type 0
  AddsOpening o before after = Adds (GivesOpening digest m axis index) (λ x. x.cross) most o before after

  -- an opening gives one
  pub one_given : (o a b : Opening) → GivesOpening digest m axis index o a → GivesOpening digest m axis index o b → a ≡ b
  one_given o a b is_a is_b = is_a.0 ∙ sym is_b.0

  -- an opening that was marked as new, and holds
  pub addition_new : (flags : List Bool) (before after : List Opening) (o copy : Opening) → Marks flags (crosses_of before) → length before < most
      → o.cross < 1000 → (IsTrue (slice_index_or flags o.cross false) → ⊥) → HoldsOpening digest m axis index o → copy ≡ o → after ≡ before ++ copy ∷ []
      → AddsOpening o before after × Marks (slice_set flags o.cross true) (crosses_of after)
  addition_new flags before after o copy marks short small new holds copied after_is =
      let is : after ≡ before ++ o ∷ [] = cc (after_is, copied) in (
        adds o short (refl, holds) (λ found. new ((marks.up o.cross small).1 found)) is,
        rw (is, crosses_more before o) (marks_more flags (crosses_of before) o.cross small marks),
      )

  -- an opening that is not wanted
  pub addition_none : (flags : List Bool) (before : List Opening) (o : Opening) → Marks flags (crosses_of before)
      → (length before < most → HoldsOpening digest m axis index o → o.cross < 1000)
      → (length before < most → (IsTrue (slice_index_or flags o.cross false) → ⊥) → HoldsOpening digest m axis index o → ⊥)
      → AddsOpening o before before
  addition_none flags before o marks small unwanted =
      keeps
      (λ y short given.
      let up = marks.up o.cross (small short given.1) in
      rw given.0 (flagged (slice_index_or flags o.cross false) (Contains (crosses_of before) o.cross) up.0
      (λ down. unwanted short down given.1)))
      refl
