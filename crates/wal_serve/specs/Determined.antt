-- What serving determines; the two texts of a collision are not compared.
use Rattle.std.specs.Prelude.{◌≡◌, ◌⊎◌, ℕ, Bool, true, false, List, [], ◌∷◌, ◌++◌, ⊤}
use Rattle.wal_shape.specs.declared.text.MetaClash.{MetaClash}
use Rattle.wal_serve.specs.declared.serving.ServeEnd.{ServeEnd}
use Rattle.wal_serve.specs.declared.serving.ServeEnd.TheVariants.{Collision}
use Rattle.wal_serve.specs.Reply.{clash_text}
use Rattle.wal_serve.specs.Serving.{Serves, Table}

-- the same frames, but for the last one, which shows two texts of a collision in both
pub record SameButLast (xs ys : List (List ℕ)) : Type 0 where
  pub front : List (List ℕ)
  pub one : MetaClash
  pub other : MetaClash
  pub ends : xs ≡ front ++ clash_text one ∷ []
  pub ends_too : ys ≡ front ++ clash_text other ∷ []

-- whether two texts of one digest ended serving
abbrev pub is_collision : ServeEnd → Bool
is_collision (Collision clash) = true
is_collision _ = false

-- one end; the texts of two collisions are not compared
abbrev pub SameEnd : ServeEnd → ServeEnd → Type 0
SameEnd end other =
    (is_collision end ≡ is_collision other) × (is_collision end ≡ false → end ≡ other)

-- one way to serve: what was taken, how it ended, and the state then are the same; so are the
-- answers, but for the two texts in the last frame of a collision
pub record SameServing {C : Type 0} (front given : List ℕ)
    (xs ys : List (List ℕ)) (new then : C) (end other : ServeEnd) : Type 0 where
  pub taken : front ≡ given
  pub ends : SameEnd end other
  pub frames : is_collision end ≡ false → xs ≡ ys
  pub last : is_collision end ≡ true → SameButLast xs ys
  pub state : new ≡ then

-- these bytes of a source are served in only one way, but for faults
abbrev pub HasOneServing : {C : Type 0} → Table C → ℕ → ℕ → C → List ℕ → Type 0
HasOneServing {C} Answer room limit fresh input =
    (taken rest given after : List ℕ) (frames others : List (List ℕ))
    (state then : C) (end other : ServeEnd)
    → input ≡ taken ++ rest → input ≡ given ++ after
    → Serves Answer room limit fresh taken (rest ≡ []) ⊥ ⊥ frames state end
    → Serves Answer room limit fresh given (after ≡ []) ⊥ ⊥ others then other
    → SameServing taken given frames others state then end other

-- the same frames, but for the two texts that the last one of a collision shows
abbrev pub SameFrames : List (List ℕ) → List (List ℕ) → Type 0
SameFrames xs ys = (xs ≡ ys) ⊎ SameButLast xs ys

-- bytes that were taken are answered in only one way, whatever ended serving
abbrev pub AnswersOnce : {C : Type 0} → Table C → ℕ → ℕ → C → Type 0
AnswersOnce {C} Answer room limit fresh =
    (taken : List ℕ) (frames others : List (List ℕ)) (state then : C) (end other : ServeEnd)
    → Serves Answer room limit fresh taken ⊤ ⊤ ⊤ frames state end
    → Serves Answer room limit fresh taken ⊤ ⊤ ⊤ others then other
    → SameFrames frames others × (state ≡ then)
