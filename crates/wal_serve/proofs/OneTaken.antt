-- What was taken is answered in one way, whatever ended serving, if the table has one answer to each payload.
use Rattle.wal_serve.proofs.Common.{◌≡◌, inl, inr, ℕ, ◌+◌, ◌≤◌, List, [], ◌∷◌, ◌++◌, length, Option, Some, None, refl, sym, ap, append-nil, arith, length-append, ⊤, MetaClash, envelope, IsPart, IsPayload, ServeEnd, Serves, Table, AnswersOnce, SameFrames, IsSingle, SameAnswer, Served}
use Rattle.wal_serve.proofs.Fronts.{Longer}
use Rattle.wal_serve.proofs.OneServed.{Went, went, both_went}
use Rattle.wal_serve.proofs.OneEnd.{first_byte, no_bytes, none_within, part_begins}

-- why nothing was answered behind `n` bytes of envelopes, where this tail was taken behind them
pub data Left (limit n : ℕ) (tail : List ℕ) : Type 0 where
  nothing : tail ≡ [] → n ≤ limit → Left limit n tail
  wrong : (b : ℕ) (after : List ℕ) → tail ≡ b ∷ after → (b ≡ 0x57 → ⊥) → n ≤ limit → Left limit n tail
  part : IsPart tail → n ≤ limit → Left limit n tail
  past : (front : List ℕ) (b : ℕ) (after : List ℕ) → tail ≡ front ++ b ∷ after → IsPart front → n + length front ≡ limit → Left limit n tail

left_within : (limit n : ℕ) (tail : List ℕ) → Left limit n tail → n ≤ limit
left_within limit n tail left = grind arith

-- no envelope stands there within the limit
none_left : (limit n m : ℕ) (tail : List ℕ) (sender : ℕ) (payload after : List ℕ) → Left limit n tail → IsPayload payload
    → tail ≡ envelope sender payload ++ after → n + length (envelope sender payload) ≤ m → m ≤ limit → ⊥
none_left limit n m tail sender payload after left fits begins within most = grind (arith, no_bytes, first_byte, part_begins, none_within)

module _ {C : Type 0} (Answer : Table C) (room limit : ℕ) (fresh : C) (taken : List ℕ) where
  front_within : (front tail : List ℕ) → taken ≡ front ++ tail → length taken ≤ limit → length front ≤ limit
  front_within front tail parts within = omega (arith, ap length parts, length-append front tail, within)

  abbrev Told : List (List ℕ) → C → Type 0
  Told frames state = Went Answer room fresh taken (λ n tail clash. Left limit n tail) frames state

  whole : {frames : List (List ℕ)} {clash : Option MetaClash} {state : C} → Served Answer room fresh taken frames clash state
      → length taken ≤ limit → Told frames state
  whole all within = went [] (sym (append-nil taken)) all (nothing refl within)

  told_by : (frames : List (List ℕ)) (state : C) (end : ServeEnd) → Serves Answer room limit fresh taken ⊤ ⊤ ⊤ frames state end
      → Told frames state
  told_by frames state _ (Serves.wrong front b parts bad some within) =
      went (b ∷ []) parts some (wrong b [] refl bad (front_within front (b ∷ []) parts within))
  told_by frames state _ (Serves.cut front piece parts is long some within at_end) =
      went piece parts some (part is (front_within front piece parts within))
  told_by frames state _ (Serves.too_long front piece b parts is some size) =
      went (piece ++ b ∷ []) parts some
      (past piece b [] refl is (omega (arith, ap length parts, size, length-append front (piece ++ b ∷ []), length-append piece (b ∷ []))))
  told_by frames state _ (Serves.read_fault front piece parts is some within rose) =
      went piece parts some (part is (front_within front piece parts within))
  told_by frames state _ (Serves.done all within at_end) = whole all within
  told_by frames state _ (Serves.stopped clash before all within last) = whole all within
  told_by frames state _ (Serves.write_fault clash all within rose) = whole all within

  not_longer : (frames others : List (List ℕ)) (state then : C) (a : Told frames state) (b : Told others then)
      → Longer a.payloads a.front a.tail b.payloads b.front → ⊥
  not_longer frames others state then a b l =
      none_left limit (length a.front) (length b.front) a.tail l.sender l.payload l.after a.why l.fits l.begins l.within
      (left_within limit (length b.front) b.tail b.why)

frames_once : {C : Type 0} (xs ys : List (List ℕ)) (clash second : Option MetaClash) (new then : C)
    → SameAnswer xs ys clash second new then → SameFrames xs ys × (new ≡ then)
frames_once xs ys None second new then same = (inl (same.frames refl), same.state)
frames_once xs ys (Some texts) second new then same = (inr (same.last refl), same.state)

-- ONE ANSWER to what was taken
pub answers_once : {C : Type 0} (Answer : Table C) (room limit : ℕ) (fresh : C) → IsSingle Answer → AnswersOnce Answer room limit fresh
answers_once Answer room limit fresh single taken frames others state then end other serves served =
    let a = told_by Answer room limit fresh taken frames state end serves in
    let b = told_by Answer room limit fresh taken others then other served in
    frames_once frames others a.clash b.clash state then
    (both_went single a b
    (not_longer Answer room limit fresh taken frames others state then a b)
    (not_longer Answer room limit fresh taken others frames then state b a)).0
