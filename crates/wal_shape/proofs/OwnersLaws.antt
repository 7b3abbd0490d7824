-- Flags of numbers, and what holds of all numbers below another.
use Rattle.wal_shape.proofs.Common.{refl, ◌≡◌, ℕ, zero, suc, ◌<◌, ◌≤◌, Bool, true, false, nat_lt, List, [], ◌∷◌, get_or, replicate, inl, inr, arith, list_all, cases_lt, cases_eq, and_parts, lt-ltb, ltb-true, length-replicate, get_or-replicate, get_or_past, every_below}
use Rattle.std.proofs.Math.Bool.{and-false}

-- no flag is up
pub flag_cleared : (n s : ℕ) → get_or (replicate n false) s false ≡ false
flag_cleared n s = elim (cases_lt s n) [
  | inl lt ↦ get_or-replicate n s false false lt
  | inr past ↦ get_or_past (replicate n false) s false (omega (arith, length-replicate n false))
]

-- a number that fails
pub every_below-fails : (n k : ℕ) (p : ℕ → Bool) → k < n → p k ≡ false → every_below n p ≡ false
every_below-fails zero k p lt fails = absurd (omega arith)
every_below-fails (suc n) k p lt fails = elim (cases_eq k n) [
  | inl e ↦ rw (← e, fails, and-false)
  | inr ne ↦ rw (every_below-fails n k p (omega arith) fails)
]

-- nodes below a number are below a greater one
pub nodes_below : (owners : List ℕ) (n most : ℕ) → n ≤ most → list_all (λ node. nat_lt node n) owners ≡ true → list_all (λ node. nat_lt node most) owners ≡ true
nodes_below [] n most le each = refl
nodes_below (x ∷ xs) n most le each =
    let both = and_parts (nat_lt x n) (list_all (λ node. nat_lt node n) xs) each in
    rw (lt-ltb x most (omega (arith, ltb-true x n both.0))) (nodes_below xs n most le both.1)
