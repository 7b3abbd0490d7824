-- Members of lists, and sets of shards that meet.
use Rattle.wal_chain.proofs.Common.{◌≡◌, ◌≢◌, ◌⊎◌, ℕ, zero, suc, ◌+◌, ◌<◌, ◌≤◌, Bool, true, false, not, ◌&&◌, inl, inr, ⊎_elim, List, [], ◌∷◌, length, take, Contains, refl, ap, ◌∙◌, arith, bytes_eq, Decides, or_cases, or_left, or_right, and_parts, false≢true, nat_tests, bytes_eq-Decides, list_any, count_below, committee_size, quorum_size, count_below-split, count_below-some}

decided : {P : Type 0} (r : Bool) → Decides r P → P ⊎ (P → ⊥)
decided true d = inl (d.0 refl)
decided false d = inr (λ p. false≢true (d.1 p))

-- two texts are the same or not
pub same_or_not : (xs ys : List ℕ) → (xs ≡ ys) ⊎ (xs ≢ ys)
same_or_not xs ys = decided (bytes_eq xs ys) (bytes_eq-Decides xs ys)

-- a list with so many first elements is as long
pub reaches : {X : Type 0} (n : ℕ) (xs : List X) → length (take n xs) ≡ n → n ≤ length xs
reaches zero xs long = omega arith
reaches (suc n) [] long = absurd (omega (arith, long))
reaches (suc n) (x ∷ xs) long = omega (arith, reaches n xs (omega (arith, long)))

module _ {X : Type 0} (p : X → Bool) where
  -- a test that some element passes finds one
  pub any_member : (xs : List X) → list_any p xs ≡ true → (x : X) × Contains xs x × (p x ≡ true)
  any_member [] h = absurd (false≢true h)
  any_member (x ∷ xs) h =
      ⊎_elim
      (λ here. (x, (0, omega arith, refl), here))
      (λ there. let found = any_member xs there in (found.0, (suc found.1.0, omega (arith, found.1.1), found.1.2), found.2))
      (or_cases (p x) (list_any p xs) h)

  -- and an element that passes is some
  pub member_any : (xs : List X) (x : X) → Contains xs x → p x ≡ true → list_any p xs ≡ true
  member_any [] x (k, lt, at) h = absurd (omega (arith, lt))
  member_any (y ∷ ys) x (zero, lt, at) h = or_left (p y) (list_any p ys) (ap p at ∙ h)
  member_any (y ∷ ys) x (suc k, lt, at) h = or_right (p y) (list_any p ys) (member_any ys x (k, omega (arith, lt), at) h)

not_false : (b : Bool) → not b ≡ true → b ≡ false
not_false true h = absurd (false≢true h)
not_false false h = refl

-- two sets among n shards have what is more than n in common
common : (n : ℕ) (p q : ℕ → Bool) → count_below n p + count_below n q ≤ n + count_below n (λ s. p s && q s)
common zero p q = omega arith
common (suc n) p q = grind (arith, nat_tests, common n p q)

-- two quorums have a correct shard in common
pub common_correct : (f : ℕ) (p q faulty : ℕ → Bool) → quorum_size f ≤ count_below (committee_size f) p → quorum_size f ≤ count_below (committee_size f) q → count_below (committee_size f) faulty ≤ f
    → (s : ℕ) × (s < committee_size f) × (p s ≡ true) × (q s ≡ true) × (faulty s ≡ false)
common_correct f p q faulty one other few =
    let n = committee_size f in
    let r : ℕ → Bool = λ s. p s && q s in
    let found = count_below-some n (λ s. r s && not (faulty s)) (omega (arith, common n p q, count_below-split n r faulty, one, other, few)) in
    let s = found.0 in
    let parts = and_parts (p s && q s) (not (faulty s)) found.2 in
    let both = and_parts (p s) (q s) parts.0 in
    (s, found.1, both.0, both.1, not_false (faulty s) parts.1)
