-- What is taken from items: one list, of distinct keys, and all that they give as long as there is room.
use Rattle.wal_evidence.proofs.Common.{◌≡◌, ℕ, zero, suc, ◌<◌, ◌≤◌, List, [], ◌∷◌, ◌++◌, length, map, Contains, refl, sym, subst, ◌∙◌, arith, ⊎_elim, length-append, map-append, All-nil, All-push, Contains-append_left, Contains-push}
use Rattle.wal_evidence.specs.FirstOfEach.{Adds, TakesAfter, TakesFirst, adds, keeps}
use Rattle.wal_evidence.specs.inside.FirstOfEach.{AreTaken}
use Rattle.wal_evidence.proofs.Marked.{distinct_more, known_or_new}

module _ {X Y : Type 0} (Gives : X → Y → Type 0) (key : Y → ℕ) (most : ℕ) where
  -- what is taken from two lists, one after the other
  pub takes_append : (before : List Y) (items more : List X) (taken after : List Y) → TakesAfter Gives key most before items taken
      → TakesAfter Gives key most taken more after → TakesAfter Gives key most before (items ++ more) after
  takes_append before [] more taken after takes rest = subst (λ (ys : List Y). TakesAfter Gives key most ys more after) takes rest
  takes_append before (z ∷ items) more taken after takes rest = (takes.0, takes.1, takes_append takes.0 items more taken after takes.2 rest)

  -- one more item at the end of the list
  pub takes_more : (before : List Y) (items : List X) (taken after : List Y) (x : X) → TakesAfter Gives key most before items taken
      → Adds Gives key most x taken after → TakesAfter Gives key most before (items ++ x ∷ []) after
  takes_more before items taken after x takes more = takes_append before items (x ∷ []) taken after takes (after, more, refl)

  -- where there is no room, nothing more is taken
  full_after : (before : List Y) (items : List X) → most ≤ length before → TakesAfter Gives key most before items before
  full_after before [] full = refl
  full_after before (x ∷ items) full = (before, keeps (λ y short gives. absurd (omega arith)) refl, full_after before items full)

  -- if as many are taken as may be, more items change nothing
  pub full_more : (items more : List X) (taken : List Y) → most ≤ length taken → TakesFirst Gives key most items taken
      → TakesFirst Gives key most (items ++ more) taken
  full_more items more taken full takes = takes_append [] items more taken taken takes (full_after taken more full)

  -- what is taken of items of which this is so
  module _ (Is : Y → Type 0) where
    taken_none : AreTaken Is key most []
    taken_none = record { few = omega arith; distinct = λ i j d before within. absurd (omega arith); each = All-nil Is }

    addition_taken : (x : X) (before after : List Y) → ((y : Y) → Gives x y → Is y) → Adds Gives key most x before after → AreTaken Is key most before
        → AreTaken Is key most after
    addition_taken x before after given (adds y short gives new after_is) was =
        rw after_is (record {
          few = omega (arith, length-append before (y ∷ []), short);
          distinct = rw map-append (distinct_more (map key before) (key y) was.distinct new);
          each = All-push Is before y was.each (given y gives);
        })
    addition_taken x before after given (keeps none after_is) was = rw after_is was

    taken_after : (before : List Y) (items : List X) (taken : List Y) → ((x : X) (y : Y) → Contains items x → Gives x y → Is y)
        → TakesAfter Gives key most before items taken → AreTaken Is key most before → AreTaken Is key most taken
    taken_after before [] taken given takes was = rw takes was
    taken_after before (x ∷ items) taken given takes was =
        taken_after takes.0 items taken
        (λ z y there gives. let below = there.1 in given z y (suc there.0, omega arith, there.2) gives) takes.2
        (addition_taken x before takes.0 (λ y gives. given x y (0, omega arith, refl) gives) takes.1 was)

    -- what is taken is at most so many, of distinct keys, and is what the items give
    pub first_taken : (items : List X) (taken : List Y) → ((x : X) (y : Y) → Contains items x → Gives x y → Is y) → TakesFirst Gives key most items taken
        → AreTaken Is key most taken
    first_taken items taken given takes = taken_after [] items taken given takes taken_none

  -- an item that gives one thing adds one thing
  module _ (same : (x : X) (y z : Y) → Gives x y → Gives x z → y ≡ z) where
    one_addition : (x : X) (before a b : List Y) → Adds Gives key most x before a → Adds Gives key most x before b → a ≡ b
    one_addition x before a b p q = grind (arith, same)

    -- so one list is taken
    pub one_taken : (before : List Y) (items : List X) (a b : List Y) → TakesAfter Gives key most before items a → TakesAfter Gives key most before items b → a ≡ b
    one_taken before [] a b is_a is_b = is_a ∙ sym is_b
    one_taken before (x ∷ items) a b is_a is_b =
        let first = one_addition x before is_a.0 is_b.0 is_a.1 is_b.1 in
        one_taken is_b.0 items a b (subst (λ (ys : List Y). TakesAfter Gives key most ys items a) first is_a.2) is_b.2

    -- ---- all that items give

    -- what was taken stays
    abbrev Grows : List Y → List Y → Type 0
    Grows before after = (length before ≤ length after) × ((k : ℕ) → Contains (map key before) k → Contains (map key after) k)

    one_grows : (x : X) (before after : List Y) → Adds Gives key most x before after → Grows before after
    one_grows x before after (adds y short gives new is) =
        rw is (
          omega (arith, length-append before (y ∷ [])),
          λ k found. rw map-append (Contains-append_left (map key before) (key y ∷ []) k found),
        )
    one_grows x before after (keeps none is) = rw is (omega arith, λ k found. found)

    grows : (before : List Y) (items : List X) (taken : List Y) → TakesAfter Gives key most before items taken → Grows before taken
    grows before [] taken is = rw is (omega arith, λ k found. found)
    grows before (x ∷ items) taken is =
        let first = one_grows x before is.0 is.1 in
        let rest = grows is.0 items taken is.2 in
        (omega (arith, first.0, rest.0), λ k found. rest.1 k (first.1 k found))

    -- what an item gives is there, where there was room
    one_there : (x : X) (y : Y) (before after : List Y) → length before < most → Adds Gives key most x before after → Gives x y
        → Contains (map key after) (key y)
    one_there x y before after room (adds z short also new is) gives =
        rw (is, map-append, same x z y also gives) (Contains-push (map key before) (key y))
    one_there x y before after room (keeps none is) gives = rw is (none y room gives)

    -- where fewer than `most` are taken, the key of all that an item gives is there
    pub takes_all : (before : List Y) (items : List X) (taken : List Y) → TakesAfter Gives key most before items taken → length taken < most
        → (x : X) (y : Y) → Contains items x → Gives x y → Contains (map key taken) (key y)
    takes_all before [] taken is room x y (k, below, at) gives = absurd (omega arith)
    takes_all before (z ∷ items) taken is room x y (zero, below, at) gives =
        let fewer = (grows before (z ∷ items) taken is).0 in
        (grows is.0 items taken is.2).1 (key y) (one_there z y before is.0 (omega (arith, room, fewer)) is.1 (rw at gives))
    takes_all before (z ∷ items) taken is room x y (suc k, below, at) gives =
        takes_all is.0 items taken is.2 room x y (k, omega arith, at) gives

  -- ---- there is such a list

  -- an item adds something or nothing
  some_addition : (x : X) (before : List Y) → ((after : List Y) × Adds Gives key most x before after → ⊥) → ⊥
  some_addition x before never =
      never (
        before,
        keeps
            (λ y short gives.
            ⊎_elim (λ known. known) (λ new. absurd (never (before ++ y ∷ [], adds y short gives new refl))) (known_or_new (map key before) (key y)))
            refl,
      )

  -- something is taken from each list
  pub some_taken : (before : List Y) (items : List X) → ((taken : List Y) × TakesAfter Gives key most before items taken → ⊥) → ⊥
  some_taken before [] never = never (before, refl)
  some_taken before (x ∷ items) never =
      some_addition x before (λ first. some_taken first.0 items (λ rest. never (rest.0, (first.0, first.1, rest.1))))
