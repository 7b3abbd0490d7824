-- A field of characteristic 2: each element is its own negative, so there is no subtraction.
use Rattle.std.proofs.lemmas.Bool.{cases_Bool, false_from_ne_true}
use Rattle.wal_gf.proofs.Common.{◌≡◌, ◌≢◌, ◌∙◌, sym, Bool, true, false, ◌⊎◌, inl, inr}

pub record Field (K : Type 0) : Type 0 where
  pub nothing : K
  pub unit : K
  pub plus : K → K → K
  pub times : K → K → K
  pub inverse : K → K
  -- whether two elements are equal
  pub same : K → K → Bool
  pub plus_assoc : (a b c : K) → plus (plus a b) c ≡ plus a (plus b c)
  pub plus_comm : (a b : K) → plus a b ≡ plus b a
  pub plus-nothing : (a : K) → plus a nothing ≡ a
  pub plus-self : (a : K) → plus a a ≡ nothing
  pub times_assoc : (a b c : K) → times (times a b) c ≡ times a (times b c)
  pub times_comm : (a b : K) → times a b ≡ times b a
  pub times-unit : (a : K) → times a unit ≡ a
  pub times-plus : (a b c : K) → times a (plus b c) ≡ plus (times a b) (times a c)
  pub times-inverse : (a : K) → a ≢ nothing → times a (inverse a) ≡ unit
  pub same-to : (a b : K) → same a b ≡ true → a ≡ b
  pub same-from : (a b : K) → a ≡ b → same a b ≡ true

module _ {K : Type 0} (F : Field K) where
  open F use {nothing, unit, plus, times, inverse, same, plus_assoc, plus_comm, plus-nothing, plus-self, times_assoc, times_comm, times-unit, times-plus, times-inverse, same-to, same-from}

  pub nothing-plus : (a : K) → plus nothing a ≡ a
  nothing-plus a = plus_comm nothing a ∙ plus-nothing a

  pub unit-times : (a : K) → times unit a ≡ a
  unit-times a = times_comm unit a ∙ times-unit a

  pub plus-times : (a b c : K) → times (plus a b) c ≡ plus (times a c) (times b c)
  plus-times a b c = times_comm (plus a b) c ∙ rw (times-plus, times_comm c a, times_comm c b)

  pub plus_left_comm : (a b c : K) → plus a (plus b c) ≡ plus b (plus a c)
  plus_left_comm a b c = sym (plus_assoc a b c) ∙ rw (plus_comm a b) (plus_assoc b a c)

  pub times_left_comm : (a b c : K) → times a (times b c) ≡ times b (times a c)
  times_left_comm a b c = sym (times_assoc a b c) ∙ rw (times_comm a b) (times_assoc b a c)

  pub plus_back : (a b : K) → plus a (plus a b) ≡ b
  plus_back a b = sym (plus_assoc a a b) ∙ rw (plus-self a) (nothing-plus b)

  -- two elements whose sum is nothing are equal
  pub same_of_sum : (a b : K) → plus a b ≡ nothing → a ≡ b
  same_of_sum a b h = cc (plus-nothing a, plus_back a b)

  pub times-nothing : (a : K) → times a nothing ≡ nothing
  times-nothing a = cc (plus-self nothing, times-plus a nothing nothing, plus-self (times a nothing))

  pub nothing-times : (a : K) → times nothing a ≡ nothing
  nothing-times a = times_comm nothing a ∙ times-nothing a

  -- where a product is nothing and its first factor is not, the second is
  pub no_divisors : (a b : K) → a ≢ nothing → times a b ≡ nothing → b ≡ nothing
  no_divisors a b h e =
      let i = inverse a in
      cc (unit-times b, times-inverse a h, times_comm a i, times_assoc i a b, times-nothing i)

  -- equality is told by a test, so any two elements are equal or not
  pub equal_or_not : (a b : K) → (a ≡ b) ⊎ (a ≢ b)
  equal_or_not a b = elim (cases_Bool (same a b)) [
    | inl e ↦ inl (same-to a b e)
    | inr e ↦ inr (λ h. cc (same-from a b h, e))
  ]

  pub same-other : (a b : K) → a ≢ b → same a b ≡ false
  same-other a b h = false_from_ne_true (same a b) (λ e. h (same-to a b e))
