-- Lists of shards.
use Rattle.std.proofs.Common.{◌≡◌, ◌≢◌, ℕ, zero, suc, ◌+◌, ◌<◌, Bool, true, false, ◌&&◌, nat_eq, nat_lt, nat_le, List, [], ◌∷◌, ◌⊎◌, inl, inr, ap, subst, arith}
use Rattle.std.proofs.lemmas.Bool.Decides.{nat_tests}
use Rattle.std.proofs.lemmas.Bool.{cases_eq, and_parts, and_right, or_cases, ltb-true}
use Rattle.wal_shape.specs.Owners.{among, ascends_from, every_below}

-- a shard of an ascending list is below its bound
pub among_below : (low n : ℕ) (shards : List ℕ) (s : ℕ) → ascends_from low n shards ≡ true → among shards s ≡ true → s < n
among_below low n [] s ascends here = cc
among_below low n (x ∷ shards) s ascends here =
    let parts = and_parts (nat_le low x) (nat_lt x n && ascends_from (x + 1) n shards) ascends in
    let rest = and_parts (nat_lt x n) (ascends_from (x + 1) n shards) parts.1 in
    elim (or_cases (nat_eq x s) (among shards s) here) [
      | inl same ↦ let below : x < n = ltb-true x n rest.0 in let e : x ≡ s = grind (arith, nat_tests) in omega arith
      | inr later ↦ among_below (x + 1) n shards s rest.1 later
    ]
