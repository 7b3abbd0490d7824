-- Sets of shards and first epochs.
use Rattle.std.proofs.Common.{◌≡◌, ℕ, zero, suc, ◌<◌, ◌≤◌, Bool, ◌&&◌, nat_le, refl, sym, ap, ◌∙◌, arith, Option, Some, None, inl, inr}
use Rattle.std.proofs.lemmas.Bool.{lt-ltb, lt-leb, cases_eq, cond-false}
use Rattle.wal_ledger.specs.Shards.{count_below, committee_size, quorum_size}
use Rattle.wal_ledger.proofs.TallyLaws.{count_below-same}
use Rattle.wal_record.specs.Record.{within, FirstQuorum, reached, or_else, first_below}

-- the members below n are counted
pub count_within : (n : ℕ) (p : ℕ → Bool) → count_below n (within n p) ≡ count_below n p
count_within n p = count_below-same n p (within n p) (λ s lt. ap (λ b. b && p s) (lt-ltb s n lt))

-- the first quorum is told by who signed in each epoch
pub first_same : (f n : ℕ) (c d : ℕ → ℕ → Bool) → ((e : ℕ) → e < n → d e ≡ c e) → first_below f d n ≡ first_below f c n
first_same f zero c d same = refl
first_same f (suc n) c d same =
    ap (λ q. or_else q (reached f n (d n))) (first_same f n c d (λ e lt. same e (omega arith)))
    ∙ ap (λ (m : ℕ → Bool). or_else (first_below f c n) (reached f n m)) (same n (omega arith))

none_reached : (f e : ℕ) (set : ℕ → Bool) → count_below (committee_size f) set < quorum_size f → reached f e set ≡ None
none_reached f e set few = cond-false (nat_le (quorum_size f) (count_below (committee_size f) set)) (Some (record { epoch = e; signed = set })) None (lt-leb (quorum_size f) (count_below (committee_size f) set) few)

or_none : (q : Option FirstQuorum) → or_else q None ≡ q
or_none None = refl
or_none (Some q) = refl

-- and stays where none signed later
pub first_stays : (f n m : ℕ) (c : ℕ → ℕ → Bool) → n ≤ m → ((e : ℕ) → n ≤ e → count_below (committee_size f) (c e) < quorum_size f) → first_below f c m ≡ first_below f c n
first_stays f n zero c le few = let e : ◌≡◌ {A = ℕ} 0 n = omega arith in ap (first_below f c) e
first_stays f n (suc m) c le few = elim (cases_eq n (suc m)) [
  | inl e ↦ ap (first_below f c) (sym e)
  | inr ne ↦
      ap (λ q. or_else (first_below f c m) q) (none_reached f m (c m) (few m (omega arith)))
      ∙ or_none (first_below f c m) ∙ first_stays f n m c (omega arith) few
]
