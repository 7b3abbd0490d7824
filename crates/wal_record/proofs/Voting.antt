-- The votes of a blob after one more entry.
use Rattle.std.proofs.Common.{◌≡◌, ℕ, suc, ◌+◌, ◌-◌, ◌<◌, ◌≤◌, Bool, false, cond, ◌&&◌, ◌||◌, nat_lt, nat_eq, List, refl, sym, ap, ◌∙◌, arith, inl, inr}
use Rattle.std.proofs.lemmas.Bool.{cases_lt, cases_eq, eq-eqb, ne_eqb, and_right, lt-ltb, le-ltb}
use mathlib.Core.Path.{fun_ext}
use Rattle.wal_ledger.specs.Shards.{committee_size}
use Rattle.wal_ledger.specs.Ledger.{same_node}
use Rattle.wal_ledger.proofs.Quorums.{count_below-none}
use Rattle.wal_record.specs.Record.{within, first_below, votes_with, no_votes}
use Rattle.wal_record.specs.Context.{first_quorum, signed_in, voted}
use Rattle.wal_record.proofs.Sets.{count_within, first_same, first_stays}

-- no votes, where nobody signed
pub votes_none : (f : ℕ) (signers : ℕ → ℕ → Bool) → ((s : ℕ) → signers 0 s ≡ false) → votes_with f signers 0 ≡ no_votes
votes_none f signers none =
    let e : ◌≡◌ {A = ℕ → Bool} (within (committee_size f) (signers 0)) (λ s. false) = fun_ext (λ s. and_right (nat_lt s (committee_size f)) (signers 0 s) (none s)) in
    ap (λ (set : ℕ → Bool). record no_votes { signed = set }) e

-- the votes are told by the signers up to the last epoch
pub votes_same : (f last : ℕ) (old new : ℕ → ℕ → Bool) → ((e s : ℕ) → e ≤ last → new e s ≡ old e s) → votes_with f new last ≡ votes_with f old last
votes_same f last old new same =
    let n : ℕ = committee_size f in
    let sets = λ (e : ℕ) (le : e ≤ last). fun_ext {f = within n (new e)} {g = within n (old e)} (λ s. ap (λ b. nat_lt s n && b) (same e s le)) in
    let e : ◌≡◌ {A = ℕ → Bool} (within n (new last)) (within n (old last)) = sets last (omega arith) in
    let b : ◌≡◌ {A = ℕ → Bool} (λ s. nat_lt 0 last && within n (new (last - 1)) s) (λ s. nat_lt 0 last && within n (old (last - 1)) s) =
    fun_ext (λ s. ap (λ c. nat_lt 0 last && (nat_lt s n && c)) (same (last - 1) s (omega arith))) in
    let q = first_same f last (λ e. within n (old e)) (λ e. within n (new e)) (λ e lt. sets e (omega arith)) in
    cc

-- the votes after a node signed in an epoch, the last so far
pub votes_voted : (f last w shard : ℕ) (owners : List ℕ) (old new : ℕ → ℕ → Bool) → last ≤ w
    → ((s : ℕ) → new w s ≡ (old w s || same_node owners shard s)) → ((e s : ℕ) → e < w → new e s ≡ old e s) → ((e s : ℕ) → last < e → old e s ≡ false)
    → votes_with f new w ≡ voted f w owners shard (votes_with f old last)
votes_voted f last w shard owners old new le here before late =
    let n : ℕ = committee_size f in
    let signed : ◌≡◌ {A = ℕ → Bool} (within n (new w)) (λ s. signed_in (votes_with f old last) w s || within n (same_node owners shard) s) =
    fun_ext (λ s. member s) in
    let before_is : ◌≡◌ {A = ℕ → Bool} (λ s. nat_lt 0 w && within n (new (w - 1)) s) (voted f w owners shard (votes_with f old last)).before = fun_ext (λ s. member_before s) in
    let earlier : first_below f (λ e. within n (new e)) w ≡ cond (nat_eq last w) (first_below f (λ e. within n (old e)) last) (first_quorum f (votes_with f old last)) =
    first_same f w (λ e. within n (old e)) (λ e. within n (new e)) (λ e lt. fun_ext (λ s. ap (λ b. nat_lt s n && b) (before e s lt))) ∙ by_last in
    cc
  where
    member : (s : ℕ) → within (committee_size f) (new w) s ≡ (signed_in (votes_with f old last) w s || within (committee_size f) (same_node owners shard) s)
    member s = elim (cases_eq last w) [
      | inl e ↦ rw (eq-eqb last w e, here s, ← e) (grind arith)
      | inr ne ↦ rw (ne_eqb last w ne, here s, late w s (omega arith)) refl
    ]

    member_before : (s : ℕ) → (nat_lt 0 w && within (committee_size f) (new (w - 1)) s)
        ≡ cond (nat_eq last w) (nat_lt 0 last && within (committee_size f) (old (last - 1)) s) (nat_eq (last + 1) w && within (committee_size f) (old last) s)
    member_before s = elim (cases_eq last w) [
      | inl e ↦ rw (eq-eqb last w e) (elim (cases_lt 0 w) [
        | inl pos ↦ ap (λ c. nat_lt 0 w && (nat_lt s (committee_size f) && c)) (before (w - 1) s (omega arith)) ∙ ap (λ (k : ℕ). nat_lt 0 k && within (committee_size f) (old (k - 1)) s) (sym e)
        | inr none ↦ rw (le-ltb 0 w none, le-ltb 0 last (omega arith)) refl
      ])
      | inr ne ↦ rw (ne_eqb last w ne, lt-ltb 0 w (omega arith), before (w - 1) s (omega arith)) (elim (cases_eq (last + 1) w) [
        | inl e ↦ let k : ◌≡◌ {A = ℕ} (w - 1) last = omega arith in rw (eq-eqb (last + 1) w e, k) refl
        | inr far ↦ rw (ne_eqb (last + 1) w far) (and_right (nat_lt s (committee_size f)) (old (w - 1) s) (late (w - 1) s (omega arith)))
      ])
    ]

    by_last : first_below f (λ e. within (committee_size f) (old e)) w
        ≡ cond (nat_eq last w) (first_below f (λ e. within (committee_size f) (old e)) last) (first_quorum f (votes_with f old last))
    by_last = elim (cases_eq last w) [
      | inl e ↦ rw (eq-eqb last w e) (ap (first_below f (λ k. within (committee_size f) (old k))) (sym e))
      | inr ne ↦
          rw (ne_eqb last w ne)
          (first_stays f (suc last) w (λ k. within (committee_size f) (old k)) (omega arith)
          (λ k lt. omega (arith, count_within (committee_size f) (old k), count_below-none (committee_size f) (old k) (λ s. late k s (omega arith)))))
    ]
